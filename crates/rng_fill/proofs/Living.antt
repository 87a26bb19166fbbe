-- Definitions that live, are sound and unmixed, and aren't large can be filled.
use Rattle.std.proofs.Common.{◌≡◌, ◌≤◌, ◌<◌, ℕ, zero, suc, List, [], ◌∷◌, ◌++◌, Bool, true, false, not, ◌&&◌, ◌||◌, Some, length, refl, sym}
use Rattle.std.proofs.Common.{subst, ◌∙◌, arith, inl, inr}
use Rattle.std.specs.Prelude.{IsTrue, Option, nat_le, slice_get, if◌then◌else◌}
use Rattle.std.specs.List.{AllByRecursion}
use Rattle.std.specs.Str.{is_utf8}
use Rattle.std.proofs.lemmas.Bool.{and_parts, and_from, or_left, or_right, cases_Bool, cases_lt, false≢true}
use Rattle.std.proofs.lemmas.List.Elements.{filter_map-append}
use Rattle.std.proofs.lemmas.Option.{slice_get_within}
use Rattle.nx_base.specs.declared.name.Name.{Name}
use Rattle.nx_base.specs.Characters.{is_blank, is_of_chars}
use Rattle.nx_base.specs.Trees.{Attribute, Children, nil, string, element, strings}
use Rattle.rng_types.specs.MemberTest.{has_member}
use Rattle.rng_types.specs.Spaces.{words}
use Rattle.rng_types.specs.Types.{Accepts, TakesAway}
use Rattle.rng_types.specs.declared.datatype.Datatype.{Datatype}
use Rattle.rng_types.specs.declared.datatype.Except.{Except}
use Rattle.rng_types.proofs.Collapsed.{words-blank}
use Rattle.rng_types.proofs.Deciding.{accepts_decided}
use Rattle.rng_types.proofs.Exist.{members_exist, texts_give_members}
use Rattle.rng_core.specs.Names.{Class, has_name, has_attribute_name}
use Rattle.rng_core.specs.Patterns.{Pattern, Definition, typed, listed, attribute, ref}
use Rattle.rng_core.specs.Matching.{no_attribute, then_second, string_of_first, no_child, string_to_first, string_to_second, Matches, by_first}
use Rattle.rng_core.specs.Matching.{by_second}
use Rattle.rng_core.specs.Matching.{by_group, by_interleave, by_text, by_one, by_more, by_element, by_attribute, by_blank_attribute, by_data}
use Rattle.rng_core.specs.Matching.{by_value, by_list}
use Rattle.rng_core.specs.Soundness.{IsSoundPattern, sound_not_allowed, sound_empty, sound_text, sound_data, sound_value, sound_list, sound_attribute}
use Rattle.rng_core.specs.Soundness.{sound_ref, sound_one_or_more, sound_choice, sound_group, sound_interleave, IsSoundDefinition}
use Rattle.rng_core.specs.Soundness.{SoundExceptsSuit}
use Rattle.rng_core.specs.declared.name_class.Bearer.TheVariants.{Element as AnElement, Attribute as AnAttribute}
use Rattle.rng_core.proofs.Borne.{overlap_found}
use Rattle.rng_kept.specs.Clean.{Clean, TakesString, clean_empty, clean_text, clean_data, clean_value, clean_list, clean_attribute, clean_ref}
use Rattle.rng_kept.specs.Clean.{clean_one_or_more, clean_choice, clean_group, clean_interleave}
use Rattle.rng_kept.specs.Lists.{has_no_list, has_flat_lists}
use Rattle.rng_kept.specs.Nullable.{nullable}
use Rattle.rng_kept.specs.SolidStrings.{has_words}
use Rattle.rng_live.specs.Living.{has_some_name, has_some_attribute_name}
use Rattle.rng_residual.proofs.Members.{solid}
use Rattle.rng_residual.proofs.Nullable.{nullable_in}
use Rattle.rng_cost.specs.Least.{cost_at, least}
use Rattle.rng_cost.specs.Leaves.{leaves}
use Rattle.rng_cost.proofs.Exact.{over_is_large, complete_by}
use Rattle.rng_fill.specs.Sorted.{number_of, ref_leaves}
use Rattle.rng_fill.specs.Strings.{AreSoundTexts, has_some_string}
use Rattle.rng_fill.specs.Fillable.{HasFilling, IsNamed, is_named_by}
use Rattle.rng_fill.specs.Laws.{FilledWhereNotLarge}
use Rattle.rng_fill.proofs.Proper.{leaves_are_distinct}

-- ---- names

named_element : (c : Class) (n : Name) → IsTrue (has_name c n) → has_some_name c ≡ true
named_element c n h = overlap_found AnElement c c (record { name = n; first = h; second = h })

named_attribute : (c : Class) (n : Name) → IsTrue (has_attribute_name c n) → has_some_attribute_name c ≡ true
named_attribute c n h = overlap_found AnAttribute c c (record { name = n; first = h; second = h })

-- ---- sound texts

sound_texts : SoundExceptsSuit → {count : ℕ} {p : Pattern} → IsSoundPattern count p → AreSoundTexts p
sound_texts suit sound_not_allowed = tt
sound_texts suit sound_empty = tt
sound_texts suit sound_text = tt
sound_texts suit (sound_data {type = type} {excepts = excepts} made few all) = (few, made, suit type excepts all)
sound_texts suit (sound_value {type = type} {text = text} made accepted of) = ((accepts_decided type text).1 accepted, of)
sound_texts suit (sound_list s) = sound_texts suit s
sound_texts suit (sound_attribute c s) = sound_texts suit s
sound_texts suit (sound_ref low) = tt
sound_texts suit (sound_one_or_more s) = sound_texts suit s
sound_texts suit (sound_choice s r) = (sound_texts suit s, sound_texts suit r)
sound_texts suit (sound_group s r) = (sound_texts suit s, sound_texts suit r)
sound_texts suit (sound_interleave s r) = (sound_texts suit s, sound_texts suit r)

-- ---- strings that are matched are told

utf8_of : (t : List ℕ) → IsTrue (is_of_chars t) → IsTrue (is_utf8 t)
utf8_of t of = (and_parts _ _ of).0

data_in : {count : ℕ} {type : Datatype} {excepts : List Except} (t : List ℕ) → IsSoundPattern count (typed type excepts) → IsTrue (is_utf8 t)
    → Accepts type t → AllByRecursion (λ except. TakesAway type t except → ⊥) excepts → has_member type excepts false ≡ true
data_in {type = type} {excepts = excepts} t (sound_data made few all) u accepted left =
    let most : length excepts ≤ 129 = omega (arith, few) in
    (members_exist type excepts false made most).1
    (texts_give_members type excepts false t made most u (record { accepted = accepted; left = left; token = λ f. absurd (false≢true f) }))

by_side : (P : List Pattern → Type 0) (b : Bool) (xs ys : List Pattern) → P xs → P ys → P (if b then xs else ys)
by_side P true xs ys first second = first
by_side P false xs ys first second = second

all_join : {X : Type 0} (P : X → Type 0) (xs ys : List X) → AllByRecursion P xs → AllByRecursion P ys → AllByRecursion P (xs ++ ys)
all_join P [] ys a b = b
all_join P (x ∷ xs) ys a b = (a.0, all_join P xs ys a.1 b)

module _ {g : List Definition} where
  list_in : {count : ℕ} {p : Pattern} (t : List ℕ) → IsSoundPattern count p → has_no_list p ≡ true → IsTrue (is_utf8 t)
      → Matches g p [] (strings (words t)) → (has_words p || (not false && nullable p)) ≡ true
  list_in {count = count} {p = p} t s flat u m = elim (cases_Bool (is_blank t)) [
    | inl blank ↦
        or_right (has_words p) (nullable p)
        (nullable_in (subst (λ (ws : List (List ℕ)). Matches g p [] (strings ws)) (words-blank t blank) m))
    | inr some ↦
        or_left (has_words p) (nullable p)
        (((solid {g = g}).all.passes t u some).list_in p (record { count = count; sound = sound_list s; flat = flat }) (by_list m))
  ]

  string_in : {count : ℕ} {p : Pattern} {t : List ℕ} → IsSoundPattern count p → has_flat_lists p ≡ true → IsTrue (is_utf8 t)
      → Matches g p [] (string t nil) → has_some_string false p ≡ true
  string_in s f u (by_text m) = refl
  string_in s f u (by_value a m) = refl
  string_in {t = t} s f u (by_data a d) = data_in t s u a d
  string_in {t = t} (sound_list s) f u (by_list m) = list_in t s f u m
  string_in (sound_choice {p = p} {q = q} s r) f u (by_first m) =
      or_left (has_some_string false p) (has_some_string false q) (string_in s (and_parts (has_flat_lists p) (has_flat_lists q) f).0 u m)
  string_in (sound_choice {p = p} {q = q} s r) f u (by_second m) =
      or_right (has_some_string false p) (has_some_string false q) (string_in r (and_parts (has_flat_lists p) (has_flat_lists q) f).1 u m)
  string_in (sound_group {p = p} {q = q} s r) f u (by_group no_attribute then_second m n) =
      or_right (has_some_string false p && nullable q) (nullable p && has_some_string false q)
      (and_from _ _ (nullable_in m) (string_in r (and_parts (has_flat_lists p) (has_flat_lists q) f).1 u n))
  string_in (sound_group {p = p} {q = q} s r) f u (by_group no_attribute (string_of_first then_second) m n) =
      or_left (has_some_string false p && nullable q) (nullable p && has_some_string false q)
      (and_from _ _ (string_in s (and_parts (has_flat_lists p) (has_flat_lists q) f).0 u m) (nullable_in n))
  string_in (sound_interleave {p = p} {q = q} s r) f u (by_interleave no_attribute (string_to_second no_child) m n) =
      or_right (has_some_string false p && nullable q) (nullable p && has_some_string false q)
      (and_from _ _ (nullable_in m) (string_in r (and_parts (has_flat_lists p) (has_flat_lists q) f).1 u n))
  string_in (sound_interleave {p = p} {q = q} s r) f u (by_interleave no_attribute (string_to_first no_child) m n) =
      or_left (has_some_string false p && nullable q) (nullable p && has_some_string false q)
      (and_from _ _ (string_in s (and_parts (has_flat_lists p) (has_flat_lists q) f).0 u m) (nullable_in n))
  string_in (sound_one_or_more s) f u (by_one m) = string_in s f u m
  string_in (sound_one_or_more s) f u (by_more no_attribute then_second m n) = string_in (sound_one_or_more s) f u n
  string_in (sound_one_or_more s) f u (by_more no_attribute (string_of_first then_second) m n) = string_in s f u m

  -- ---- leaves

  data_fills : {count : ℕ} {type : Datatype} {excepts : List Except} → IsSoundPattern count (typed type excepts)
      → TakesString g true (typed type excepts) → has_member type excepts false ≡ true
  data_fills {type = type} {excepts = excepts} s w = go w.matched
    where
      go : Matches g (typed type excepts) [] (string w.text nil) → has_member type excepts false ≡ true
      go (by_data a d) = data_in w.text s (utf8_of w.text w.of_chars) a d

  list_fills : {count : ℕ} {p : Pattern} → IsSoundPattern count p → has_no_list p ≡ true → TakesString g true (listed p)
      → (has_words p || (not false && nullable p)) ≡ true
  list_fills {p = p} s f w = go w.matched
    where
      go : Matches g (listed p) [] (string w.text nil) → (has_words p || (not false && nullable p)) ≡ true
      go (by_list m) = list_in w.text s f (utf8_of w.text w.of_chars) m

  attribute_fills : SoundExceptsSuit → {count : ℕ} {class : Class} {p : Pattern} {a : Attribute} → IsSoundPattern count (attribute class p)
      → has_flat_lists p ≡ true → IsTrue (is_of_chars a.value) → Matches g (attribute class p) (a ∷ []) nil → HasFilling (attribute class p)
  attribute_fills suit {class = class} {p = p} {a = a} (sound_attribute k s) f of (by_attribute named m) = (
    named_attribute class a.name named,
    sound_texts suit s,
    or_left (has_some_string false p) (nullable p) (string_in s f (utf8_of a.value of) m),
  )
  attribute_fills suit {class = class} {p = p} {a = a} (sound_attribute k s) f of (by_blank_attribute named blank m) = (
    named_attribute class a.name named,
    sound_texts suit s,
    or_right (has_some_string false p) (nullable p) (nullable_in m),
  )

  element_named : {i : ℕ} {n : Name} {a : List Attribute} {k : Children} → Matches g (ref i) [] (element n a k nil) → IsNamed g i
  element_named (by_element {d = d} {n = n} at named w m) =
      subst (λ (o : Option Definition). IsTrue (is_named_by o)) (sym at) (named_element d.class n named)

  -- ---- the leaves of a content

  fills : SoundExceptsSuit → (costs : List ℕ) {count : ℕ} {p : Pattern} → Clean g true true p → IsSoundPattern count p
      → AllByRecursion HasFilling (leaves costs p)
  fills suit costs clean_empty s = tt
  fills suit costs clean_text s = tt
  fills suit costs (clean_data z w) s = ((sound_texts suit s, data_fills s w), tt)
  fills suit costs (clean_value z k) s = ((sound_texts suit s, refl), tt)
  fills suit costs (clean_list z f w) (sound_list s) = ((sound_texts suit s, list_fills s f w), tt)
  fills suit costs (clean_attribute a f is of m) s = (attribute_fills suit s f of m, tt)
  fills suit costs (clean_ref n a k c w m) s = (tt, tt)
  fills suit costs (clean_one_or_more c) (sound_one_or_more s) = fills suit costs c s
  fills suit costs (clean_choice {p = p} {q = q} c e) (sound_choice s r) =
      let P : List Pattern → Type 0 = λ ps. AllByRecursion HasFilling ps in
      by_side P (nat_le (least costs p) (least costs q)) (leaves costs p) (leaves costs q) (fills suit costs c s) (fills suit costs e r)
  fills suit costs (clean_group {p = p} {q = q} c e) (sound_group s r) =
      all_join HasFilling (leaves costs p) (leaves costs q) (fills suit costs c s) (fills suit costs e r)
  fills suit costs (clean_interleave {p = p} {q = q} c e) (sound_interleave s r) =
      all_join HasFilling (leaves costs p) (leaves costs q) (fills suit costs c s) (fills suit costs e r)

  names : (costs : List ℕ) {p : Pattern} → Clean g true true p → AllByRecursion (IsNamed g) (ref_leaves (leaves costs p))
  names costs clean_empty = tt
  names costs clean_text = tt
  names costs (clean_data z w) = tt
  names costs (clean_value z k) = tt
  names costs (clean_list z f w) = tt
  names costs (clean_attribute a f is of m) = tt
  names costs (clean_ref n a k c w m) = (element_named m, tt)
  names costs (clean_one_or_more c) = names costs c
  names costs (clean_choice {p = p} {q = q} c e) =
      let P : List Pattern → Type 0 = λ ps. AllByRecursion (IsNamed g) (ref_leaves ps) in
      by_side P (nat_le (least costs p) (least costs q)) (leaves costs p) (leaves costs q) (names costs c) (names costs e)
  names costs (clean_group {p = p} {q = q} c e) =
      subst (λ (is : List ℕ). AllByRecursion (IsNamed g) is) (sym (filter_map-append number_of (leaves costs p) (leaves costs q)))
      (all_join (IsNamed g) (ref_leaves (leaves costs p)) (ref_leaves (leaves costs q)) (names costs c) (names costs e))
  names costs (clean_interleave {p = p} {q = q} c e) =
      subst (λ (is : List ℕ). AllByRecursion (IsNamed g) is) (sym (filter_map-append number_of (leaves costs p) (leaves costs q)))
      (all_join (IsNamed g) (ref_leaves (leaves costs p)) (ref_leaves (leaves costs q)) (names costs c) (names costs e))

sound_at : {count : ℕ} (g : List Definition) (i : ℕ) (d : Definition) → AllByRecursion (IsSoundDefinition count) g → slice_get g i ≡ Some d
    → IsSoundDefinition count d
sound_at [] i d all at = cc
sound_at {count = count} (e ∷ g) zero d all at = let same : e ≡ d = cc in subst (λ (x : Definition). IsSoundDefinition count x) same all.0
sound_at (e ∷ g) (suc i) d all at = sound_at g i d all.1 at

pub filled_where_not_large : SoundExceptsSuit → FilledWhereNotLarge
filled_where_not_large suit start g costs sound live unmixed a not_large = record {
  small = small;
  settled = settled;
  unmixed = unmixed.unmixed;
  distinct = λ i d at atts m. leaves_are_distinct g costs d.content atts (live.apart i d at) m;
  filled = λ i d at. fills suit costs (live.clean i d at) (sound_at g i d sound.definitions_are at).content_is;
  named = λ i d at. names costs (live.clean i d at);
}
  where
    small : (i : ℕ) → i < length g → cost_at costs i ≤ 10000
    small i inside = elim (cases_lt 10000 (cost_at costs i)) [
      | inl over ↦ absurd (not_large (over_is_large a (record { number = i; inside = omega (arith, inside, a.right.as_many); over = over })))
      | inr not_over ↦ not_over
    ]

    settled : (i : ℕ) (d : Definition) → slice_get g i ≡ Some d → least costs d.content ≤ cost_at costs i
    settled i d at =
        let c = a.right.so i (small i (slice_get_within g i d at)) in
        let both : Some c.definition ≡ Some d = sym c.is ∙ at in
        let same : c.definition ≡ d = cc in
        subst (λ (x : Definition). least costs x.content ≤ cost_at costs i) same (complete_by a c.costs)
