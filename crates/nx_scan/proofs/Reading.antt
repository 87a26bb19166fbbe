-- What is left of a tag behind each character.
use Rattle.std.proofs.Common.{◌≡◌, ℕ, Bool, true, false, ◌⊎◌, inl, inr, refl, sym, ◌∙◌, ap, subst, arith}
use Rattle.std.specs.Prelude.{◌==◌}
use Rattle.std.proofs.lemmas.Bool.{and_parts, or_cases, cases_Bool, cases_eq, ne_eqb, leb-true, true≢false}
use Rattle.nx_base.specs.Characters.{is_space, is_name_start, is_name_char}
use Rattle.nx_scan.specs.Tag.{left_of, left_after}
use Rattle.nx_scan.specs.declared.tag.TagState.{TagState}
use Rattle.nx_scan.specs.declared.tag.TagState.TheVariants as seen

-- a character of a class is none that the class doesn't have
differs : (p : ℕ → Bool) (c d : ℕ) → p c ≡ true → p d ≡ false → (c == d) ≡ false
differs p c d h k = ne_eqb c d (λ e. true≢false (sym h ∙ ap p e ∙ k))

-- white space is four characters
spaces_are : (c : ℕ) → is_space c ≡ true → (c ≡ 9) ⊎ ((c ≡ 10) ⊎ ((c ≡ 13) ⊎ (c ≡ 32)))
unfolding is_space
spaces_are c h = grind (arith, and_parts, or_cases, leb-true)

-- and in no class that has none of them
not_space : (p : ℕ → Bool) (c : ℕ) → is_space c ≡ true → p 9 ≡ false → p 10 ≡ false → p 13 ≡ false → p 32 ≡ false → p c ≡ false
not_space p c h a b d e =
    elim (spaces_are c h) [
      | inl x ↦ ap p x ∙ a
      | inr y ↦ elim y [ inl x ↦ ap p x ∙ b | inr z ↦ elim z [ inl x ↦ ap p x ∙ d | inr x ↦ ap p x ∙ e ] ]
    ]

-- what a space is not
record NoSpace (c : ℕ) : Type 0 where
  start : is_name_start c ≡ false
  name : is_name_char c ≡ false
  double : (c == 34) ≡ false
  single : (c == 39) ≡ false
  slash : (c == 47) ≡ false
  equals : (c == 61) ≡ false
  close : (c == 62) ≡ false

space_is : (c : ℕ) → is_space c ≡ true → NoSpace c
unfolding is_name_char is_name_start is_space
space_is c h = record {
  start = not_space is_name_start c h refl refl refl refl;
  name = not_space is_name_char c h refl refl refl refl;
  double = not_space (λ x. x == 34) c h refl refl refl refl;
  single = not_space (λ x. x == 39) c h refl refl refl refl;
  slash = not_space (λ x. x == 47) c h refl refl refl refl;
  equals = not_space (λ x. x == 61) c h refl refl refl refl;
  close = not_space (λ x. x == 62) c h refl refl refl refl;
}

-- what a name's character is not
record NoName (c : ℕ) : Type 0 where
  space : is_space c ≡ false
  slash : (c == 47) ≡ false
  equals : (c == 61) ≡ false
  close : (c == 62) ≡ false

name_is : (c : ℕ) → is_name_char c ≡ true → NoName c
unfolding is_name_char is_name_start is_space
name_is c h = record {
  space = elim (cases_Bool (is_space c)) [ inl s ↦ absurd (true≢false (sym h ∙ (space_is c s).name)) | inr n ↦ n ];
  slash = differs is_name_char c 47 h refl;
  equals = differs is_name_char c 61 h refl;
  close = differs is_name_char c 62 h refl;
}

start_is : (c : ℕ) → is_name_start c ≡ true → NoName c
unfolding is_name_start is_space
start_is c h = record {
  space = elim (cases_Bool (is_space c)) [ inl s ↦ absurd (true≢false (sym h ∙ (space_is c s).start)) | inr n ↦ n ];
  slash = differs is_name_start c 47 h refl;
  equals = differs is_name_start c 61 h refl;
  close = differs is_name_start c 62 h refl;
}

-- behind the character c, what was read as `before` is read as `next`
abbrev pub Reads : TagState → ℕ → TagState → Type 0
Reads before c next = left_of next ≡ left_after (left_of before) c

-- as behind what was read as `other`
abbrev pub ReadsAs : TagState → TagState → ℕ → Type 0
ReadsAs before other c = left_after (left_of before) c ≡ left_after (left_of other) c

pub name-name : (c : ℕ) → is_name_char c ≡ true → Reads seen.Name c seen.Name
unfolding left_of left_after
name-name c h = let n = name_is c h in simp (h, n.space, n.slash, n.close)

pub name-other : (c : ℕ) → is_name_char c ≡ false → ReadsAs seen.Name seen.Value c
unfolding left_of left_after
name-other c h = rw h refl

pub value-space : (c : ℕ) → is_space c ≡ true → Reads seen.Value c seen.Gap
unfolding left_of left_after
value-space c h = let n = space_is c h in simp (h, n.slash, n.close)

pub value-close : (c : ℕ) → c ≡ 62 → Reads seen.Value c seen.Start
unfolding left_of left_after is_space
value-close c e = let P : ℕ → Type 0 = λ x. Reads seen.Value x seen.Start in subst P (sym e) refl

pub value-slash : (c : ℕ) → c ≡ 47 → Reads seen.Value c seen.Slash
unfolding left_of left_after is_space
value-slash c e = let P : ℕ → Type 0 = λ x. Reads seen.Value x seen.Slash in subst P (sym e) refl

pub value-lost : (c : ℕ) → is_space c ≡ false → (c ≡ 62 → ⊥) → (c ≡ 47 → ⊥) → Reads seen.Value c seen.Lost
unfolding left_of left_after
value-lost c h p q = simp (h, ne_eqb c 62 p, ne_eqb c 47 q)

pub gap-start : (c : ℕ) → is_name_start c ≡ true → Reads seen.Gap c seen.Attribute
unfolding left_of left_after
gap-start c h = let n = start_is c h in simp (h, n.space, n.slash, n.close)

pub gap-other : (c : ℕ) → is_name_start c ≡ false → ReadsAs seen.Gap seen.Value c
unfolding left_of left_after
gap-other c h = elim (cases_Bool (is_space c)) [ inl s ↦ simp (h, s) | inr n ↦ simp (h, n) ]

pub attribute-name : (c : ℕ) → is_name_char c ≡ true → Reads seen.Attribute c seen.Attribute
unfolding left_of left_after
attribute-name c h = let n = name_is c h in simp (h, n.space, n.equals)

pub attribute-other : (c : ℕ) → is_name_char c ≡ false → ReadsAs seen.Attribute seen.AttributeGap c
unfolding left_of left_after
attribute-other c h = rw h refl

pub gap-space : (c : ℕ) → is_space c ≡ true → Reads seen.AttributeGap c seen.AttributeGap
unfolding left_of left_after
gap-space c h = let n = space_is c h in simp (h, n.equals)

pub gap-equals : (c : ℕ) → c ≡ 61 → Reads seen.AttributeGap c seen.Equals
unfolding left_of left_after is_space
gap-equals c e = let P : ℕ → Type 0 = λ x. Reads seen.AttributeGap x seen.Equals in subst P (sym e) refl

pub gap-lost : (c : ℕ) → is_space c ≡ false → (c ≡ 61 → ⊥) → Reads seen.AttributeGap c seen.Lost
unfolding left_of left_after
gap-lost c h p = simp (h, ne_eqb c 61 p)

pub equals-space : (c : ℕ) → is_space c ≡ true → Reads seen.Equals c seen.Equals
unfolding left_of left_after
equals-space c h = let n = space_is c h in simp (h, n.double, n.single)

pub equals-double : (c : ℕ) → c ≡ 34 → Reads seen.Equals c seen.Double
unfolding left_of left_after is_space
equals-double c e = let P : ℕ → Type 0 = λ x. Reads seen.Equals x seen.Double in subst P (sym e) refl

pub equals-single : (c : ℕ) → c ≡ 39 → Reads seen.Equals c seen.Single
unfolding left_of left_after is_space
equals-single c e = let P : ℕ → Type 0 = λ x. Reads seen.Equals x seen.Single in subst P (sym e) refl

pub equals-lost : (c : ℕ) → is_space c ≡ false → (c ≡ 34 → ⊥) → (c ≡ 39 → ⊥) → Reads seen.Equals c seen.Lost
unfolding left_of left_after
equals-lost c h p q = simp (h, ne_eqb c 34 p, ne_eqb c 39 q)

pub double-quote : (c : ℕ) → c ≡ 34 → Reads seen.Double c seen.Value
unfolding left_of left_after
double-quote c e = let P : ℕ → Type 0 = λ x. Reads seen.Double x seen.Value in subst P (sym e) refl

pub double-less : (c : ℕ) → c ≡ 60 → Reads seen.Double c seen.Lost
unfolding left_of left_after
double-less c e = let P : ℕ → Type 0 = λ x. Reads seen.Double x seen.Lost in subst P (sym e) refl

pub double-other : (c : ℕ) → (c ≡ 34 → ⊥) → (c ≡ 60 → ⊥) → Reads seen.Double c seen.Double
unfolding left_of left_after
double-other c p q = simp (ne_eqb c 34 p, ne_eqb c 60 q)

pub single-quote : (c : ℕ) → c ≡ 39 → Reads seen.Single c seen.Value
unfolding left_of left_after
single-quote c e = let P : ℕ → Type 0 = λ x. Reads seen.Single x seen.Value in subst P (sym e) refl

pub single-less : (c : ℕ) → c ≡ 60 → Reads seen.Single c seen.Lost
unfolding left_of left_after
single-less c e = let P : ℕ → Type 0 = λ x. Reads seen.Single x seen.Lost in subst P (sym e) refl

pub single-other : (c : ℕ) → (c ≡ 39 → ⊥) → (c ≡ 60 → ⊥) → Reads seen.Single c seen.Single
unfolding left_of left_after
single-other c p q = simp (ne_eqb c 39 p, ne_eqb c 60 q)

pub slash-close : (c : ℕ) → c ≡ 62 → Reads seen.Slash c seen.Empty
unfolding left_of left_after
slash-close c e = let P : ℕ → Type 0 = λ x. Reads seen.Slash x seen.Empty in subst P (sym e) refl

pub slash-lost : (c : ℕ) → (c ≡ 62 → ⊥) → Reads seen.Slash c seen.Lost
unfolding left_of left_after
slash-lost c p = simp (ne_eqb c 62 p)

pub open-slash : (c : ℕ) → c ≡ 47 → Reads seen.Open c seen.EndOpen
unfolding left_of left_after is_name_start
open-slash c e = let P : ℕ → Type 0 = λ x. Reads seen.Open x seen.EndOpen in subst P (sym e) refl

pub open-start : (c : ℕ) → is_name_start c ≡ true → Reads seen.Open c seen.Name
unfolding left_of left_after
open-start c h = let n = start_is c h in simp (h, n.slash)

pub open-lost : (c : ℕ) → (c ≡ 47 → ⊥) → is_name_start c ≡ false → Reads seen.Open c seen.Lost
unfolding left_of left_after
open-lost c p h = simp (h, ne_eqb c 47 p)

pub end-start : (c : ℕ) → is_name_start c ≡ true → Reads seen.EndOpen c seen.EndName
unfolding left_of left_after
end-start c h = simp h

pub end-lost : (c : ℕ) → is_name_start c ≡ false → Reads seen.EndOpen c seen.Lost
unfolding left_of left_after
end-lost c h = simp h

pub end-name : (c : ℕ) → is_name_char c ≡ true → Reads seen.EndName c seen.EndName
unfolding left_of left_after
end-name c h = let n = name_is c h in simp (h, n.space, n.close)

pub end-other : (c : ℕ) → is_name_char c ≡ false → ReadsAs seen.EndName seen.EndGap c
unfolding left_of left_after
end-other c h = simp h

pub end-space : (c : ℕ) → is_space c ≡ true → Reads seen.EndGap c seen.EndGap
unfolding left_of left_after
end-space c h = let n = space_is c h in simp (h, n.close)

pub end-close : (c : ℕ) → c ≡ 62 → Reads seen.EndGap c seen.End
unfolding left_of left_after is_space
end-close c e = let P : ℕ → Type 0 = λ x. Reads seen.EndGap x seen.End in subst P (sym e) refl

pub end-gap_lost : (c : ℕ) → is_space c ≡ false → (c ≡ 62 → ⊥) → Reads seen.EndGap c seen.Lost
unfolding left_of left_after
end-gap_lost c h p = simp (h, ne_eqb c 62 p)

-- nothing follows a whole tag, or what is none
pub whole_lost : (read : TagState) (c : ℕ) →
    (read ≡ seen.Start) ⊎ ((read ≡ seen.Empty) ⊎ ((read ≡ seen.End) ⊎ (read ≡ seen.Lost))) → Reads read c seen.Lost
unfolding left_of left_after
whole_lost read c is =
    let P : TagState → Type 0 = λ s. Reads s c seen.Lost in
    elim is [
      | inl e ↦ subst P (sym e) refl
      | inr x ↦ elim x [
        | inl e ↦ subst P (sym e) refl
        | inr y ↦ elim y [ inl e ↦ subst P (sym e) refl | inr e ↦ subst P (sym e) refl ]
      ]
    ]

-- so each character leads from what was read to what is read then
pub record Next (read : TagState) (c : ℕ) : Type 0 where
  pub behind : TagState
  pub reads : Reads read c behind

next_as : (read other : TagState) (c : ℕ) → ReadsAs read other c → Next other c → Next read c
next_as read other c same n = record { behind = n.behind; reads = n.reads ∙ sym same }

next_value : (c : ℕ) → Next seen.Value c
next_value c =
    elim (cases_Bool (is_space c)) [
      | inl h ↦ record { behind = seen.Gap; reads = value-space c h }
      | inr n ↦ elim (cases_eq c 62) [
        | inl e ↦ record { behind = seen.Start; reads = value-close c e }
        | inr p ↦ elim (cases_eq c 47)
            [ inl e ↦ record { behind = seen.Slash; reads = value-slash c e } | inr q ↦ record { behind = seen.Lost; reads = value-lost c n p q } ]
      ]
    ]

next_attribute_gap : (c : ℕ) → Next seen.AttributeGap c
next_attribute_gap c =
    elim (cases_Bool (is_space c)) [
      | inl h ↦ record { behind = seen.AttributeGap; reads = gap-space c h }
      | inr n ↦ elim (cases_eq c 61)
          [ inl e ↦ record { behind = seen.Equals; reads = gap-equals c e } | inr p ↦ record { behind = seen.Lost; reads = gap-lost c n p } ]
    ]

next_end_gap : (c : ℕ) → Next seen.EndGap c
next_end_gap c =
    elim (cases_Bool (is_space c)) [
      | inl h ↦ record { behind = seen.EndGap; reads = end-space c h }
      | inr n ↦ elim (cases_eq c 62)
          [ inl e ↦ record { behind = seen.End; reads = end-close c e } | inr p ↦ record { behind = seen.Lost; reads = end-gap_lost c n p } ]
    ]

pub next : (read : TagState) (c : ℕ) → Next read c
next seen.Open c =
    elim (cases_eq c 47) [
      | inl e ↦ record { behind = seen.EndOpen; reads = open-slash c e }
      | inr p ↦ elim (cases_Bool (is_name_start c))
          [ inl h ↦ record { behind = seen.Name; reads = open-start c h } | inr n ↦ record { behind = seen.Lost; reads = open-lost c p n } ]
    ]
next seen.Name c =
    elim (cases_Bool (is_name_char c))
    [ inl h ↦ record { behind = seen.Name; reads = name-name c h } | inr n ↦ next_as seen.Name seen.Value c (name-other c n) (next_value c) ]
next seen.Gap c =
    elim (cases_Bool (is_name_start c))
    [ inl h ↦ record { behind = seen.Attribute; reads = gap-start c h } | inr n ↦ next_as seen.Gap seen.Value c (gap-other c n) (next_value c) ]
next seen.Attribute c =
    elim (cases_Bool (is_name_char c)) [
      | inl h ↦ record { behind = seen.Attribute; reads = attribute-name c h }
      | inr n ↦ next_as seen.Attribute seen.AttributeGap c (attribute-other c n) (next_attribute_gap c)
    ]
next seen.AttributeGap c = next_attribute_gap c
next seen.Equals c =
    elim (cases_Bool (is_space c)) [
      | inl h ↦ record { behind = seen.Equals; reads = equals-space c h }
      | inr n ↦ elim (cases_eq c 34) [
        | inl e ↦ record { behind = seen.Double; reads = equals-double c e }
        | inr p ↦ elim (cases_eq c 39)
            [ inl e ↦ record { behind = seen.Single; reads = equals-single c e } | inr q ↦ record { behind = seen.Lost; reads = equals-lost c n p q } ]
      ]
    ]
next seen.Double c =
    elim (cases_eq c 34) [
      | inl e ↦ record { behind = seen.Value; reads = double-quote c e }
      | inr p ↦ elim (cases_eq c 60)
          [ inl e ↦ record { behind = seen.Lost; reads = double-less c e } | inr q ↦ record { behind = seen.Double; reads = double-other c p q } ]
    ]
next seen.Single c =
    elim (cases_eq c 39) [
      | inl e ↦ record { behind = seen.Value; reads = single-quote c e }
      | inr p ↦ elim (cases_eq c 60)
          [ inl e ↦ record { behind = seen.Lost; reads = single-less c e } | inr q ↦ record { behind = seen.Single; reads = single-other c p q } ]
    ]
next seen.Value c = next_value c
next seen.Slash c =
    elim (cases_eq c 62)
    [ inl e ↦ record { behind = seen.Empty; reads = slash-close c e } | inr p ↦ record { behind = seen.Lost; reads = slash-lost c p } ]
next seen.EndOpen c =
    elim (cases_Bool (is_name_start c))
    [ inl h ↦ record { behind = seen.EndName; reads = end-start c h } | inr n ↦ record { behind = seen.Lost; reads = end-lost c n } ]
next seen.EndName c =
    elim (cases_Bool (is_name_char c))
    [ inl h ↦ record { behind = seen.EndName; reads = end-name c h } | inr n ↦ next_as seen.EndName seen.EndGap c (end-other c n) (next_end_gap c) ]
next seen.EndGap c = next_end_gap c
next seen.Start c = record { behind = seen.Lost; reads = whole_lost seen.Start c (inl refl) }
next seen.Empty c = record { behind = seen.Lost; reads = whole_lost seen.Empty c (inr (inl refl)) }
next seen.End c = record { behind = seen.Lost; reads = whole_lost seen.End c (inr (inr (inl refl))) }
next seen.Lost c = record { behind = seen.Lost; reads = whole_lost seen.Lost c (inr (inr (inr refl))) }

pub ruleset open_rules = (open-slash, open-start, open-lost)

pub ruleset name_rules = (name-name, name-other)

pub ruleset value_rules = (value-space, value-close, value-slash, value-lost)

pub ruleset gap_rules = (gap-start, gap-other)

pub ruleset attribute_rules = (attribute-name, attribute-other)

pub ruleset attribute_gap_rules = (gap-space, gap-equals, gap-lost)

pub ruleset equals_rules = (equals-space, equals-double, equals-single, equals-lost)

pub ruleset double_rules = (double-quote, double-less, double-other)

pub ruleset single_rules = (single-quote, single-less, single-other)

pub ruleset slash_rules = (slash-close, slash-lost)

pub ruleset end_open_rules = (end-start, end-lost)

pub ruleset end_name_rules = (end-name, end-other)

pub ruleset end_gap_rules = (end-space, end-close, end-gap_lost)
