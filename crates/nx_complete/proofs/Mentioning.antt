-- Whether a schema mentions a name, or a namespace, is decided.
use Rattle.std.proofs.Common.{◌≡◌, ℕ, zero, suc, List, [], ◌∷◌, Bool, true, false, refl, sym, subst, ◌∙◌, ◌⊎◌, inl, inr, Some}
use Rattle.std.specs.Prelude.{◌||◌, slice_get}
use Rattle.std.proofs.lemmas.Bool.{false≢true, cases_Bool, or_cases, or_left, or_right, or_parts, and_parts, false_from_ne_true}
use Rattle.nx_base.specs.declared.name.Name.{Name}
use Rattle.std.specs.Str.{bytes_eq}
use Rattle.rng_core.specs.Names.{Class, any_name, ns_name, the_name, either, without}
use Rattle.rng_core.specs.Patterns.{Pattern, Definition, not_allowed, empty, any_text, typed, literal, listed, attribute, ref, one_or_more, choice, group, interleave}
use Rattle.rng_kept.specs.Mentioned.{class_mentions, class_mentions_ns, IsAttributesOf, itself, of_one_or_more, of_first_choice, of_second_choice, of_first_of_group, of_second_of_group, of_first_of_interleave, of_second_of_interleave, IsClassOf, of_elements, of_attributes, IsUnmentioned, IsUnmentionedNamespace}
use Rattle.rng_live.specs.Listed.{Mentions, MentionsNamespace}

module _ (t : Class → Bool) where
  abbrev in_attributes : Pattern → Bool
  in_attributes (attribute c p) = t c
  in_attributes (one_or_more p) = in_attributes p
  in_attributes (choice p q) = in_attributes p || in_attributes q
  in_attributes (group p q) = in_attributes p || in_attributes q
  in_attributes (interleave p q) = in_attributes p || in_attributes q
  in_attributes _ = false

  record HasClass (p : Pattern) : Type 0 where
    class : Class
    of : IsAttributesOf class p
    passes : t class ≡ true

  some_class : (p : Pattern) → in_attributes p ≡ true → HasClass p
  some_class not_allowed h = absurd (false≢true h)
  some_class empty h = absurd (false≢true h)
  some_class any_text h = absurd (false≢true h)
  some_class (typed d e) h = absurd (false≢true h)
  some_class (literal d v) h = absurd (false≢true h)
  some_class (listed p) h = absurd (false≢true h)
  some_class (ref i) h = absurd (false≢true h)
  some_class (attribute c p) h = record { class = c; of = itself; passes = h }
  some_class (one_or_more p) h = let w = some_class p h in record { class = w.class; of = of_one_or_more w.of; passes = w.passes }
  some_class (choice p q) h = elim (or_cases (in_attributes p) (in_attributes q) h) [
    | inl e ↦ (let w = some_class p e in record { class = w.class; of = of_first_choice w.of; passes = w.passes })
    | inr e ↦ (let w = some_class q e in record { class = w.class; of = of_second_choice w.of; passes = w.passes })
  ]
  some_class (group p q) h = elim (or_cases (in_attributes p) (in_attributes q) h) [
    | inl e ↦ (let w = some_class p e in record { class = w.class; of = of_first_of_group w.of; passes = w.passes })
    | inr e ↦ (let w = some_class q e in record { class = w.class; of = of_second_of_group w.of; passes = w.passes })
  ]
  some_class (interleave p q) h = elim (or_cases (in_attributes p) (in_attributes q) h) [
    | inl e ↦ (let w = some_class p e in record { class = w.class; of = of_first_of_interleave w.of; passes = w.passes })
    | inr e ↦ (let w = some_class q e in record { class = w.class; of = of_second_of_interleave w.of; passes = w.passes })
  ]

  no_class : {c : Class} {p : Pattern} → IsAttributesOf c p → in_attributes p ≡ false → t c ≡ false
  no_class itself h = h
  no_class (of_one_or_more i) h = no_class i h
  no_class (of_first_choice {p = p} {q = q} i) h = no_class i (or_parts (in_attributes p) (in_attributes q) h).0
  no_class (of_second_choice {p = p} {q = q} i) h = no_class i (or_parts (in_attributes p) (in_attributes q) h).1
  no_class (of_first_of_group {p = p} {q = q} i) h = no_class i (or_parts (in_attributes p) (in_attributes q) h).0
  no_class (of_second_of_group {p = p} {q = q} i) h = no_class i (or_parts (in_attributes p) (in_attributes q) h).1
  no_class (of_first_of_interleave {p = p} {q = q} i) h = no_class i (or_parts (in_attributes p) (in_attributes q) h).0
  no_class (of_second_of_interleave {p = p} {q = q} i) h = no_class i (or_parts (in_attributes p) (in_attributes q) h).1

  abbrev in_definitions : List Definition → Bool
  in_definitions [] = false
  in_definitions (d ∷ ds) = (t d.class || in_attributes d.content) || in_definitions ds

  record Found (ds : List Definition) : Type 0 where
    number : ℕ
    definition : Definition
    class : Class
    is : slice_get ds number ≡ Some definition
    of : IsClassOf class definition
    passes : t class ≡ true

  abbrev NoneFound : List Definition → Type 0
  NoneFound ds = (i : ℕ) (d : Definition) (c : Class) → slice_get ds i ≡ Some d → IsClassOf c d → t c ≡ false

  found : (ds : List Definition) → in_definitions ds ≡ true → Found ds
  found [] h = absurd (false≢true h)
  found (d ∷ ds) h = elim (or_cases (t d.class || in_attributes d.content) (in_definitions ds) h) [
    | inl e ↦ elim (or_cases (t d.class) (in_attributes d.content) e) [
      | inl f ↦ record { number = zero; definition = d; class = d.class; is = refl; of = of_elements refl; passes = f }
      | inr f ↦ (let w = some_class d.content f in record { number = zero; definition = d; class = w.class; is = refl; of = of_attributes w.of; passes = w.passes })
    ]
    | inr e ↦ (let w = found ds e in record { number = suc w.number; definition = w.definition; class = w.class; is = w.is; of = w.of; passes = w.passes })
  ]

  none_of : (d : Definition) (c : Class) → IsClassOf c d → (t d.class || in_attributes d.content) ≡ false → t c ≡ false
  none_of d c (of_elements e) h = subst (λ (x : Class). t x ≡ false) e (or_parts (t d.class) (in_attributes d.content) h).0
  none_of d c (of_attributes i) h = no_class i (or_parts (t d.class) (in_attributes d.content) h).1

  same_first : (d e : Definition) → Some d ≡ Some e → d ≡ e
  same_first d e h = cc

  none_found : (ds : List Definition) → in_definitions ds ≡ false → NoneFound ds
  none_found [] h i d c e k = cc
  none_found (d ∷ ds) h zero e c is k =
      none_of d c (subst (λ (x : Definition). IsClassOf c x) (sym (same_first d e is)) k) (or_parts (t d.class || in_attributes d.content) (in_definitions ds) h).0
  none_found (d ∷ ds) h (suc i) e c is k = none_found ds (or_parts (t d.class || in_attributes d.content) (in_definitions ds) h).1 i e c is k

  decided : (ds : List Definition) → Found ds ⊎ NoneFound ds
  decided ds = elim (cases_Bool (in_definitions ds)) [ inl e ↦ inl (found ds e) | inr e ↦ inr (none_found ds e) ]

pub mentions_or_not : (g : List Definition) (n : Name) → Mentions g n ⊎ IsUnmentioned g n
mentions_or_not g n = elim (decided (λ c. class_mentions c n) g) [
  | inl f ↦ inl (record { number = f.number; definition = f.definition; class = f.class; is = f.is; of_definition = f.of; mentioned = f.passes })
  | inr f ↦ inr f
]

pub mentions_space_or_not : (g : List Definition) (ns : List ℕ) → MentionsNamespace g ns ⊎ IsUnmentionedNamespace g ns
mentions_space_or_not g ns = elim (decided (λ c. class_mentions_ns c ns) g) [
  | inl f ↦ inl (record { number = f.number; definition = f.definition; class = f.class; is = f.is; of_definition = f.of; mentioned = f.passes })
  | inr f ↦ inr f
]

-- a name is unmentioned exactly where the schema doesn't mention it
pub mentioned_not : (g : List Definition) (n : Name) → Mentions g n → IsUnmentioned g n → ⊥
mentioned_not g n m u = false≢true (sym (u m.number m.definition m.class m.is m.of_definition) ∙ m.mentioned)

pub space_not : (g : List Definition) (ns : List ℕ) → MentionsNamespace g ns → IsUnmentionedNamespace g ns → ⊥
space_not g ns m u = false≢true (sym (u m.number m.definition m.class m.is m.of_definition) ∙ m.mentioned)

-- a class that mentions a name mentions its namespace
mentions_its_space : (c : Class) (n : Name) → class_mentions c n ≡ true → class_mentions_ns c n.ns ≡ true
mentions_its_space any_name n h = absurd (false≢true h)
mentions_its_space (ns_name of) n h = absurd (false≢true h)
mentions_its_space (the_name m) n h = (and_parts (bytes_eq n.ns m.ns) _ h).0
mentions_its_space (either c d) n h = elim (or_cases (class_mentions c n) (class_mentions d n) h) [
  | inl e ↦ or_left _ _ (mentions_its_space c n e)
  | inr e ↦ or_right (class_mentions_ns c n.ns) _ (mentions_its_space d n e)
]
mentions_its_space (without c d) n h = elim (or_cases (class_mentions c n) (class_mentions d n) h) [
  | inl e ↦ or_left _ _ (mentions_its_space c n e)
  | inr e ↦ or_right (class_mentions_ns c n.ns) _ (mentions_its_space d n e)
]

pub unmentioned_in : (g : List Definition) (n : Name) → IsUnmentionedNamespace g n.ns → IsUnmentioned g n
unmentioned_in g n u i d c e k = false_from_ne_true _ (λ h. false≢true (sym (u i d c e k) ∙ mentions_its_space c n h))
