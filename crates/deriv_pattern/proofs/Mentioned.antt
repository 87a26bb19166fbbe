-- A class that has one name alone mentions it, so that what a pattern needs is among the names that its classes mention.
use Rattle.std.proofs.Common.{◌≡◌, ℕ, List, [], ◌∷◌, Bool, true, false, not, ◌&&◌, ◌||◌, refl, sym, subst, ◌∙◌, inl, inr}
use Rattle.std.specs.Prelude.{Contains, IsTrue, ◌↔◌}
use Rattle.std.proofs.lemmas.Bool.{false≢true, cases_Bool, and_parts, and_from, or_left, or_right, or_cases, not-true}
use Rattle.std.proofs.lemmas.List.Elements.{Contains-push, Contains-append_left, Contains-append_right}
use Rattle.nx_base.specs.declared.name.Name.{Name}
use Rattle.nx_base.specs.Names.{is_namespace, is_xml_name, is_attribute_name, same_name}
use Rattle.rng_core.specs.Names.{Class, any_name, ns_name, the_name, either, without, covers, has_attribute_name, AttributeOverlap}
use Rattle.rng_core.specs.Unmentioned.{covers_others_in, covers_others}
use Rattle.rng_core.specs.Patterns.{Pattern, not_allowed, empty, any_text, typed, literal, listed, attribute, ref, one_or_more, choice, group, interleave}
use Rattle.rng_core.proofs.Overlaps.{same_bytes}
use Rattle.rng_kept.specs.Mentioned.{class_mentions, class_mentions_ns}
use Rattle.rng_kept.specs.Required.{other_at, has_only, needs}
use Rattle.rng_residual.specs.Required.{OtherName}
use Rattle.rng_residual.proofs.Mentioned.{covers-unmentioned, covers-other_namespace}
use Rattle.rng_residual.proofs.SoleNames.{same_name_is, same_itself, only_is_exact}
use Rattle.rng_kept.specs.Needed.{class_names}
use Rattle.deriv_pattern.specs.Mentions.{names_of}

-- a namespace that a class mentions, whose other names it has, has another name in it
other_in : (x c : Class) (n : Name) (ns : List ℕ) → class_mentions_ns x ns ≡ true → (is_namespace ns && covers_others_in c ns) ≡ true → other_at x c n ≡ true
other_in any_name c n ns h e = absurd (false≢true h)
other_in (ns_name of) c n ns h e = subst (λ x. (is_namespace x && covers_others_in c x) ≡ true) (same_bytes ns of h) e
other_in (the_name m) c n ns h e =
    or_right (has_attribute_name c m && not (same_name m n)) _ (subst (λ x. (is_namespace x && covers_others_in c x) ≡ true) (same_bytes ns m.ns h) e)
other_in (either x y) c n ns h e = elim (or_cases (class_mentions_ns x ns) (class_mentions_ns y ns) h) [
  | inl f ↦ or_left _ _ (other_in x c n ns f e)
  | inr f ↦ or_right (other_at x c n) _ (other_in y c n ns f e)
]
other_in (without x y) c n ns h e = elim (or_cases (class_mentions_ns x ns) (class_mentions_ns y ns) h) [
  | inl f ↦ or_left _ _ (other_in x c n ns f e)
  | inr f ↦ or_right (other_at x c n) _ (other_in y c n ns f e)
]

-- a name that a class has and doesn't mention isn't the only one
not_alone : (c : Class) (n : Name) → has_attribute_name c n ≡ true → class_mentions c n ≡ false → (covers_others c || other_at c c n) ≡ true
not_alone c n h f =
    let w = and_parts (is_attribute_name n) (covers c n) h in
    let ns = (and_parts (is_namespace n.ns) _ (and_parts (is_xml_name n) _ w.0).0).0 in
    elim (cases_Bool (class_mentions_ns c n.ns)) [
      | inl e ↦ or_right (covers_others c) _ (other_in c c n n.ns e (and_from _ _ ns (sym (covers-unmentioned c n f) ∙ w.1)))
      | inr e ↦ or_left _ _ (sym (covers-other_namespace c n e) ∙ w.1)
    ]

only_mentioned : (c : Class) (n : Name) → has_only c n ≡ true → class_mentions c n ≡ true
only_mentioned c n h =
    let w = and_parts (has_attribute_name c n) (not (covers_others c || other_at c c n)) h in
    elim (cases_Bool (class_mentions c n)) [
      | inl e ↦ e
      | inr e ↦ absurd (false≢true (sym (not-true _ w.1) ∙ not_alone c n w.0 e))
    ]

mentioned_in : (c : Class) (n : Name) → class_mentions c n ≡ true → Contains (class_names c) n
mentioned_in any_name n h = absurd (false≢true h)
mentioned_in (ns_name ns) n h = absurd (false≢true h)
mentioned_in (the_name m) n h = subst (λ k. Contains (k ∷ []) n) (same_name_is n m h) (Contains-push [] n)
mentioned_in (either c d) n h = elim (or_cases (class_mentions c n) (class_mentions d n) h) [
  | inl e ↦ Contains-append_right (class_names d) (class_names c) n (mentioned_in c n e)
  | inr e ↦ Contains-append_left (class_names d) (class_names c) n (mentioned_in d n e)
]
mentioned_in (without c d) n h = elim (or_cases (class_mentions c n) (class_mentions d n) h) [
  | inl e ↦ Contains-append_right (class_names d) (class_names c) n (mentioned_in c n e)
  | inr e ↦ Contains-append_left (class_names d) (class_names c) n (mentioned_in d n e)
]

pub needed_mentioned : (p : Pattern) (n : Name) → needs n p ≡ true → Contains (names_of p) n
needed_mentioned not_allowed n h = absurd (false≢true h)
needed_mentioned empty n h = absurd (false≢true h)
needed_mentioned any_text n h = absurd (false≢true h)
needed_mentioned (typed type excepts) n h = absurd (false≢true h)
needed_mentioned (literal type text) n h = absurd (false≢true h)
needed_mentioned (listed p) n h = absurd (false≢true h)
needed_mentioned (attribute class p) n h = mentioned_in class n (only_mentioned class n h)
needed_mentioned (ref i) n h = absurd (false≢true h)
needed_mentioned (one_or_more p) n h = needed_mentioned p n h
needed_mentioned (choice p q) n h = needed_mentioned p n (and_parts (needs n p) (needs n q) h).0
needed_mentioned (group p q) n h = elim (or_cases (needs n p) (needs n q) h) [
  | inl e ↦ Contains-append_left (names_of p) (names_of q) n (needed_mentioned p n e)
  | inr e ↦ Contains-append_right (names_of p) (names_of q) n (needed_mentioned q n e)
]
needed_mentioned (interleave p q) n h = elim (or_cases (needs n p) (needs n q) h) [
  | inl e ↦ Contains-append_left (names_of p) (names_of q) n (needed_mentioned p n e)
  | inr e ↦ Contains-append_right (names_of p) (names_of q) n (needed_mentioned q n e)
]

-- ---- a class with another name, by what overlaps the rest of it

-- the class without a name shares one with all names where it has another
others_told : (c : Class) (n : Name) → OtherName c n → AttributeOverlap (without c (the_name n)) any_name
others_told c n o =
    let w = and_parts (is_attribute_name o.name) (covers c o.name) o.has in
    elim (cases_Bool (same_name o.name n)) [
      | inl e ↦ absurd (o.other (same_name_is o.name n e))
      | inr e ↦ record {
        name = o.name;
        first = and_from _ _ w.0 (and_from _ _ w.1 (rw e refl));
        second = and_from _ _ w.0 refl;
      }
    ]

others_found : (c : Class) (n : Name) → AttributeOverlap (without c (the_name n)) any_name → OtherName c n
others_found c n o =
    let w = and_parts (is_attribute_name o.name) (covers c o.name && not (same_name o.name n)) o.first in
    let v = and_parts (covers c o.name) (not (same_name o.name n)) w.1 in
    record {
      name = o.name;
      has = and_from _ _ w.0 v.0;
      other = λ e. false≢true (sym (not-true _ v.1) ∙ subst (λ m. same_name o.name m ≡ true) e (same_itself o.name));
    }

pub only_told : (c : Class) (n : Name) (found : Bool) → has_attribute_name c n ≡ true
    → (IsTrue found ↔ AttributeOverlap (without c (the_name n)) any_name) → not found ≡ has_only c n
only_told c n true h is =
    let o = others_found c n (is.0 refl) in
    elim (cases_Bool (has_only c n)) [
      | inl e ↦ absurd (o.other ((only_is_exact c n o.name o.has).0 e))
      | inr e ↦ sym e
    ]
only_told c n false h is = elim (cases_Bool (has_only c n)) [
  | inl e ↦ sym e
  | inr e ↦ absurd (false≢true (is.1 (others_told c n ((only_is_exact c n n h).1 e))))
]
