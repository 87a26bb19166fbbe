-- Conditions that are added spell patterns out.
use Rattle.std.proofs.Common.{◌≡◌, ℕ, zero, suc, map, get_or, ◌+◌, ◌<◌, ◌≤◌, List, [], ◌∷◌, ◌++◌, length, Bool, true, false, ◌&&◌, ◌||◌, Some, refl, sym, ap, subst, ◌∙◌, arith, inl, inr, append-nil, append_assoc, length-append}
use Rattle.std.specs.Prelude.{slice_get, replicate, option_map}
use Rattle.std.specs.List.{AllByRecursion}
use Rattle.std.proofs.lemmas.Option.{slice_get-map, slice_get-get_or}
use Rattle.rng_core.specs.declared.grammar.Def.{Def}
use Rattle.rng_core.specs.Meaning.{definition_of}
use Rattle.std.proofs.Math.ListN.{set, length-set}
use Rattle.std.proofs.lemmas.Bool.{cases_eq}
use Rattle.std.proofs.lemmas.List.{length-replicate}
use Rattle.std.proofs.lemmas.Option.{slice_get_within}
use Rattle.rng_types.specs.declared.datatype.Datatype.{Datatype}
use Rattle.rng_types.specs.declared.datatype.Except.{Except}
use Rattle.rng_types.specs.MemberTest.{has_member}
use Rattle.rng_core.specs.Names.{Class}
use Rattle.rng_core.specs.Patterns.{Pattern, Definition, not_allowed, empty, any_text, typed, literal, listed, attribute, ref, one_or_more, choice, group, interleave}
use Rattle.rng_kept.specs.Nullable.{nullable}
use Rattle.rng_kept.specs.SolidStrings.{has_words}
use Rattle.rng_live.specs.declared.condition.Condition.{Condition}
use Rattle.rng_live.specs.declared.condition.Condition.TheVariants.{Known, If, Both, Either}
use Rattle.rng_live.specs.Living.{has_some_name, has_some_attribute_name, has_string, HasSoundLeaves, HaveSoundLeaves}
use Rattle.rng_live.specs.Spelling.{IsAt, Spells, spells_not_allowed, spells_empty, spells_text, spells_data, spells_value, spells_list, spells_attribute, spells_ref, spells_one_or_more, spells_choice, spells_group, spells_interleave, IsAdded, IsSpelled, IsSpelledOut, IsDefined, AreSpelledTo, AreSpelled}
use Rattle.rng_live.proofs.Places.{at_front, at_end, set_here, set_there}

-- conditions from a low number on are there in another list
pub record AreThere (low : ℕ) (before after : List Condition) : Type 0 where
  pub there : (k : ℕ) (c : Condition) → low ≤ k → slice_get before k ≡ Some c → slice_get after k ≡ Some c

at_there : {low k : ℕ} {before after : List Condition} {c : Condition} → AreThere low before after → IsAt low before k c → IsAt low after k c
at_there {k = k} {c = c} t a = record { high = a.high; is = t.there k c a.high a.is }

pub spells_there : {low : ℕ} {before after : List Condition} {k : ℕ} {p : Pattern} → AreThere low before after → Spells low before k p → Spells low after k p
spells_there t (spells_not_allowed a) = spells_not_allowed (at_there t a)
spells_there t (spells_empty a) = spells_empty (at_there t a)
spells_there t (spells_text a) = spells_text (at_there t a)
spells_there t (spells_data a) = spells_data (at_there t a)
spells_there t (spells_value a) = spells_value (at_there t a)
spells_there t (spells_list a s) = spells_list (at_there t a) (spells_there t s)
spells_there t (spells_attribute a s) = spells_attribute (at_there t a) (spells_there t s)
spells_there t (spells_ref a) = spells_ref (at_there t a)
spells_there t (spells_one_or_more a s) = spells_one_or_more (at_there t a) (spells_there t s)
spells_there t (spells_choice a s r) = spells_choice (at_there t a) (spells_there t s) (spells_there t r)
spells_there t (spells_group a s r) = spells_group (at_there t a) (spells_there t s) (spells_there t r)
spells_there t (spells_interleave a s r) = spells_interleave (at_there t a) (spells_there t s) (spells_there t r)

grown_there : (low : ℕ) (before more after : List Condition) → after ≡ before ++ more → AreThere low before after
grown_there low before more after is = record { there = λ k c h e. ap (λ (x : List Condition). slice_get x k) is ∙ at_front before more k c e }

added_at : {c : Condition} {before after : List Condition} {k : ℕ} (low : ℕ) → low ≤ length before → IsAdded c before after k → IsAt low after k c
added_at {c = c} {before = before} {after = after} {k = k} low h a = record {
  high = let n = a.number in omega arith;
  is = ap (λ (x : List Condition). slice_get x k) a.is ∙ ap (slice_get (before ++ c ∷ [])) a.number ∙ at_end before c;
}

-- ---- one pattern, by its parts

module _ {p : Pattern} {before after : List Condition} {k : ℕ} where
  leaf : (c : Condition) → ((low : ℕ) → IsAt low after k c → Spells low after k p) → IsAdded c before after k → IsSpelled before after k p
  leaf c build a = record { more = c ∷ []; is = a.is; spells = λ low h. build low (added_at low h a) }

  part : {q : Pattern} {between : List Condition} {x : ℕ} (c : Condition) → ((low : ℕ) → IsAt low after k c → Spells low after x q → Spells low after k p) → IsSpelled before between x q → IsAdded c between after k → IsSpelled before after k p
  part {between = between} c build s a = record {
    more = s.more ++ c ∷ [];
    is = a.is ∙ ap (λ (x : List Condition). x ++ c ∷ []) s.is ∙ append_assoc before s.more (c ∷ []);
    spells = λ low h.
        let high : low ≤ length between = let l = ap (λ (x : List Condition). length x) s.is in omega (arith, length-append before s.more) in
        build low (added_at low high a) (spells_there (grown_there low between (c ∷ []) after a.is) (s.spells low h));
  }

  parts : {q r : Pattern} {first second : List Condition} {x y : ℕ} (c : Condition) → ((low : ℕ) → IsAt low after k c → Spells low after x q → Spells low after y r → Spells low after k p)
      → IsSpelled before first x q → IsSpelled first second y r → IsAdded c second after k → IsSpelled before after k p
  parts {first = first} {second = second} c build s t a = record {
    more = s.more ++ (t.more ++ c ∷ []);
    is = whole;
    spells = λ low h.
        let middle : low ≤ length first = let l = ap (λ (x : List Condition). length x) s.is in omega (arith, length-append before s.more) in
        let high : low ≤ length second = let l = ap (λ (x : List Condition). length x) t.is in omega (arith, length-append first t.more) in
        build low (added_at low high a)
        (spells_there (grown_there low first (t.more ++ c ∷ []) after behind) (s.spells low h))
        (spells_there (grown_there low second (c ∷ []) after a.is) (t.spells low middle));
  }
    where
      behind : after ≡ first ++ (t.more ++ c ∷ [])
      behind = a.is ∙ ap (λ (x : List Condition). x ++ c ∷ []) t.is ∙ append_assoc first t.more (c ∷ [])

      whole : after ≡ before ++ (s.more ++ (t.more ++ c ∷ []))
      whole = behind ∙ ap (λ (x : List Condition). x ++ (t.more ++ c ∷ [])) s.is ∙ append_assoc before s.more (t.more ++ c ∷ [])

module _ {before after : List Condition} {k : ℕ} where
  pub spelled_not_allowed : IsAdded (Known false) before after k → IsSpelled before after k not_allowed
  spelled_not_allowed a = leaf (Known false) (λ low i. spells_not_allowed i) a

  pub spelled_empty : IsAdded (Known true) before after k → IsSpelled before after k empty
  spelled_empty a = leaf (Known true) (λ low i. spells_empty i) a

  pub spelled_text : IsAdded (Known true) before after k → IsSpelled before after k any_text
  spelled_text a = leaf (Known true) (λ low i. spells_text i) a

  pub spelled_value : {type : Datatype} {text : List ℕ} → IsAdded (Known true) before after k → IsSpelled before after k (literal type text)
  spelled_value a = leaf (Known true) (λ low i. spells_value i) a

  pub spelled_data : {type : Datatype} {excepts : List Except} {b : Bool} → b ≡ has_member type excepts false → IsAdded (Known b) before after k → IsSpelled before after k (typed type excepts)
  spelled_data {type = type} {excepts = excepts} e a = leaf (Known (has_member type excepts false)) (λ low i. spells_data i) (subst (λ (v : Bool). IsAdded (Known v) before after k) e a)

  pub spelled_ref : (i : ℕ) → IsAdded (If true i) before after k → IsSpelled before after k (ref i)
  spelled_ref i a = leaf (If true i) (λ low h. spells_ref h) a

  pub spelled_one_or_more : {p : Pattern} {between : List Condition} {x : ℕ} → IsSpelled before between x p → IsAdded (If true x) between after k → IsSpelled before after k (one_or_more p)
  spelled_one_or_more {x = x} s a = part (If true x) (λ low i h. spells_one_or_more i h) s a

  pub spelled_list : {p : Pattern} {between : List Condition} {x : ℕ} {b w n : Bool} → b ≡ (w || n) → w ≡ has_words p → n ≡ nullable p → IsSpelled before between x p → IsAdded (If b x) between after k → IsSpelled before after k (listed p)
  spelled_list {p = p} {between = between} {x = x} {n = n} d e f s a =
      part (If (has_words p || nullable p) x) (λ low i h. spells_list i h) s
      (subst (λ (v : Bool). IsAdded (If v x) between after k) (d ∙ ap (λ (v : Bool). v || n) e ∙ ap (λ (v : Bool). has_words p || v) f) a)

  pub spelled_attribute : {c : Class} {p : Pattern} {between : List Condition} {x : ℕ} {b m w n : Bool} → b ≡ (m && (w || n)) → m ≡ has_some_attribute_name c → w ≡ has_string p → n ≡ nullable p → IsSpelled before between x p → IsAdded (If b x) between after k
      → IsSpelled before after k (attribute c p)
  spelled_attribute {c = c} {p = p} {between = between} {x = x} {w = w} {n = n} b d e f s a =
      part (If (has_some_attribute_name c && (has_string p || nullable p)) x) (λ low i h. spells_attribute i h) s
      (subst (λ (v : Bool). IsAdded (If v x) between after k)
      (b ∙ ap (λ (v : Bool). v && (w || n)) d ∙ ap (λ (v : Bool). has_some_attribute_name c && (v || n)) e ∙ ap (λ (v : Bool). has_some_attribute_name c && (has_string p || v)) f) a)

  pub spelled_choice : {p q : Pattern} {first second : List Condition} {x y : ℕ} → IsSpelled before first x p → IsSpelled first second y q → IsAdded (Either x y) second after k → IsSpelled before after k (choice p q)
  spelled_choice {x = x} {y = y} s t a = parts (Either x y) (λ low i h j. spells_choice i h j) s t a

  pub spelled_group : {p q : Pattern} {first second : List Condition} {x y : ℕ} → IsSpelled before first x p → IsSpelled first second y q → IsAdded (Both x y) second after k → IsSpelled before after k (group p q)
  spelled_group {x = x} {y = y} s t a = parts (Both x y) (λ low i h j. spells_group i h j) s t a

  pub spelled_interleave : {p q : Pattern} {first second : List Condition} {x y : ℕ} → IsSpelled before first x p → IsSpelled first second y q → IsAdded (Both x y) second after k → IsSpelled before after k (interleave p q)
  spelled_interleave {x = x} {y = y} s t a = parts (Both x y) (λ low i h j. spells_interleave i h j) s t a

-- ---- definitions

pub defined : {before between after : List Condition} {i root : ℕ} {named : Bool} {d : Definition} → i < length before → named ≡ has_some_name d.class → IsSpelled before between root d.content → after ≡ set between i (If named root) → IsDefined before after i d
defined {before = before} {between = between} {after = after} {i = i} {root = root} {named = named} {d = d} inside e s is = record {
  grown = let m = longer in omega (arith, ap (λ (x : List Condition). length x) is, length-set between i (If named root));
  stays = λ k c other at. ap (λ (x : List Condition). slice_get x k) is ∙ set_there between i k (If named root) other ∙ ap (λ (x : List Condition). slice_get x k) s.is ∙ at_front before s.more k c at;
  root = root;
  is = ap (λ (x : List Condition). slice_get x i) is ∙ set_here between i (If named root) (let m = longer in omega arith) ∙ ap (λ (v : Bool). Some (If v root)) e;
  spells = λ low h above. spells_there (record { there = λ k c high at. ap (λ (x : List Condition). slice_get x k) is ∙ set_there between i k (If named root) (λ same. let n : k ≡ i = same in absurd (omega arith)) ∙ at }) (s.spells low h);
}
  where
    longer : length before ≤ length between
    longer = let l = ap (λ (x : List Condition). length x) s.is in omega (arith, length-append before s.more)

pub spelled_none : (g : List Definition) (conditions : List Condition) (c : Condition) (count : ℕ) → count ≡ length g → conditions ≡ replicate count c → AreSpelledTo 0 g conditions
spelled_none g conditions c count n is = record {
  spelled = λ i d low. absurd (omega arith);
  room = let l = ap (λ (x : List Condition). length x) is in omega (arith, length-replicate count c);
}

pub spelled_more : {g : List Definition} {before after : List Condition} {i : ℕ} {d : Definition} → slice_get g i ≡ Some d → AreSpelledTo i g before → IsDefined before after i d → AreSpelledTo (i + 1) g after
spelled_more {g = g} {before = before} {after = after} {i = i} {d = d} at s n = record {
  spelled = λ j e low there. elim (cases_eq j i) [
    | inl same ↦
        let here : Some e ≡ Some d = sym there ∙ ap (slice_get g) same ∙ at in
        let this : d ≡ e = cc in
        subst (λ (x : ℕ). IsSpelledOut (length g) after x e) (sym same) (subst (λ (x : Definition). IsSpelledOut (length g) after i x) this now)
    | inr other ↦ old j e (below j low other) other there
  ];
  room = let r = s.room in let m = n.grown in omega arith;
}
  where
    inside : i < length g
    inside = slice_get_within g i d at

    now : IsSpelledOut (length g) after i d
    now = record { root = n.root; is = n.is; spells = n.spells (length g) s.room inside }

    below : (j : ℕ) → j < i + 1 → (j ≡ i → ⊥) → j < i
    below j low other = elim (cases_eq j i) [ inl same ↦ absurd (other same) | inr _ ↦ omega arith ]

    old : (j : ℕ) (e : Definition) → j < i → (j ≡ i → ⊥) → slice_get g j ≡ Some e → IsSpelledOut (length g) after j e
    old j e low other there =
        let w = s.spelled j e low there in
        record {
          root = w.root;
          is = n.stays j (If (has_some_name e.class) w.root) other w.is;
          spells = spells_there (record { there = λ k c high. n.stays k c (λ same. let q : k ≡ i = same in let z = inside in absurd (omega arith)) }) w.spells;
        }

pub spelled_all : {g : List Definition} {conditions : List Condition} (count : ℕ) → length g ≤ count → AreSpelledTo count g conditions → AreSpelled g conditions
spelled_all {g = g} count enough s = record { spelled = λ i d there. s.spelled i d (let low = slice_get_within g i d there in omega arith) there }

-- ---- patterns by what they are

pub spelled_of : {before after : List Condition} {k : ℕ} {w p : Pattern} → w ≡ p → IsSpelled before after k p → IsSpelled before after k w
spelled_of {before = before} {after = after} {k = k} e s = subst (λ (z : Pattern). IsSpelled before after k z) (sym e) s

-- ---- definitions by places

pub def_at : (defs : List Def) (i : ℕ) (d : Def) → i < length defs → d ≡ get_or defs i d → slice_get (map definition_of defs) i ≡ Some (definition_of d)
def_at defs i d inside e =
    slice_get-map definition_of defs i ∙ ap (option_map definition_of) (slice_get-get_or defs i d inside ∙ ap (λ (x : Def). Some x) (sym e))

all_there : (P : Definition → Type 0) (g : List Definition) (i : ℕ) (d : Definition) → AllByRecursion P g → slice_get g i ≡ Some d → P d
all_there P [] i d h e = cc
all_there P (x ∷ g) zero d h e = let same : x ≡ d = cc in subst P same h.0
all_there P (x ∷ g) (suc i) d h e = all_there P g i d h.1 e

pub leaves_at : (defs : List Def) (i : ℕ) (d : Def) → HaveSoundLeaves (map definition_of defs) → i < length defs → d ≡ get_or defs i d → HasSoundLeaves (definition_of d).content
leaves_at defs i d h inside e = all_there (λ x. HasSoundLeaves x.content) (map definition_of defs) i (definition_of d) h (def_at defs i d inside e)

pub spelled_grown : {g : List Definition} {before after : List Condition} (more : List Condition) → after ≡ before ++ more → AreSpelled g before → AreSpelled g after
spelled_grown {g = g} {before = before} {after = after} more is s = record {
  spelled = λ i d there.
      let w = s.spelled i d there in
      record {
        root = w.root;
        is = ap (λ (x : List Condition). slice_get x i) is ∙ at_front before more i (If (has_some_name d.class) w.root) w.is;
        spells = spells_there (grown_there (length g) before more after is) w.spells;
      };
}
