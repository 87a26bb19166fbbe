-- Classes that have one name alone, of those that an attribute can have.
use Rattle.std.specs.Prelude.{◌≡◌, ℕ, Bool, true, false, not, ◌&&◌, ◌||◌, List, [], codes}
use Rattle.std.proofs.Common.{refl, sym, ◌∙◌, subst, inl, inr}
use Rattle.std.proofs.lemmas.Bool.{false≢true, cases_Bool, and_parts, and_from, or_left, or_right, or_cases, or_parts, not_from_false, not-true}
use Rattle.std.proofs.lemmas.Slice.Eq.{bytes_eq-Decides}
use Rattle.std.specs.Str.{bytes_eq}
use Rattle.nx_base.specs.declared.name.Name.{Name}
use Rattle.nx_base.specs.Names.{is_namespace, is_xml_name, is_attribute_name, same_name}
use Rattle.rng_core.specs.Names.{Class, any_name, ns_name, the_name, either, without, covers, has_name, has_attribute_name, Overlap}
use Rattle.rng_core.specs.Unmentioned.{covers_others_in, covers_others, share_others_in, meets_at, overlaps}
use Rattle.rng_core.proofs.Overlaps.{overlap_is_there, same_bytes, same_fields}
use Rattle.rng_kept.specs.Mentioned.{class_mentions, class_mentions_ns}
use Rattle.rng_kept.specs.Required.{other_at, has_only}
use Rattle.rng_residual.proofs.Mentioned.{covers-unmentioned, covers-other_namespace}
use Rattle.rng_residual.specs.Required.{OtherName, OnlyIsExact}

-- `xmlns` in no namespace, which is the name of no attribute
abbrev xmlns : Name
xmlns = record { ns = []; local = codes "xmlns" }

-- the class without a name, and without the one that is of no attribute
abbrev rest_of : Class → Name → Class
rest_of c n = without c (either (the_name n) (the_name xmlns))

-- ---- what is told of is there

is_other : (m n : Name) → is_attribute_name m ≡ true → same_name m n ≡ false → not (same_name m n || same_name m xmlns) ≡ true
is_other m n a f = let w = and_parts (is_xml_name m) _ a in not_from_false _ (rw (f, not-true _ w.1) refl)

others_in : (c : Class) (n : Name) (ns : List ℕ) → covers_others_in c ns ≡ true → covers_others_in (rest_of c n) ns ≡ true
others_in c n ns h = rw h refl

with_any : (c : Class) (n : Name) (ns : List ℕ) → (is_namespace ns && covers_others_in c ns) ≡ true → share_others_in (rest_of c n) any_name ns ≡ true
with_any c n ns h = let w = and_parts (is_namespace ns) (covers_others_in c ns) h in rw (w.0, w.1) refl

meets_any : (x c : Class) (n : Name) → other_at x c n ≡ true → meets_at x (rest_of c n) any_name ≡ true
meets_any any_name c n h = absurd (false≢true h)
meets_any (ns_name ns) c n h = with_any c n ns h
meets_any (the_name m) c n h = elim (or_cases (has_attribute_name c m && not (same_name m n)) _ h) [
  | inl e ↦
      let w = and_parts (has_attribute_name c m) (not (same_name m n)) e in
      let v = and_parts (is_attribute_name m) (covers c m) w.0 in
      let x = (and_parts (is_xml_name m) _ v.0).0 in
      or_left _ _ (and_from _ _ (and_from _ _ x (and_from _ _ v.1 (is_other m n v.0 (not-true _ w.1)))) (and_from _ _ x refl))
  | inr e ↦ or_right (has_name (rest_of c n) m && has_name any_name m) _ (with_any c n m.ns e)
]
meets_any (either x y) c n h = elim (or_cases (other_at x c n) (other_at y c n) h) [
  | inl e ↦ or_left _ _ (meets_any x c n e)
  | inr e ↦ or_right (meets_at x (rest_of c n) any_name) _ (meets_any y c n e)
]
meets_any (without x y) c n h = elim (or_cases (other_at x c n) (other_at y c n) h) [
  | inl e ↦ or_left _ _ (meets_any x c n e)
  | inr e ↦ or_right (meets_at x (rest_of c n) any_name) _ (meets_any y c n e)
]

others_of : (c : Class) (n : Name) → covers_others c ≡ true → (covers_others (rest_of c n) && covers_others any_name) ≡ true
others_of c n e = rw e refl

-- the class meets the names of all classes where it has another one
meets : (c : Class) (n : Name) → (covers_others c || other_at c c n) ≡ true → overlaps (rest_of c n) any_name ≡ true
meets c n h = elim (or_cases (covers_others c) (other_at c c n) h) [
  | inl e ↦ or_left _ _ (others_of c n e)
  | inr e ↦
      let found : meets_at (rest_of c n) (rest_of c n) any_name ≡ true = or_left (meets_at c (rest_of c n) any_name) _ (meets_any c c n e) in
      or_right (covers_others (rest_of c n) && covers_others any_name) _ (or_left _ _ found)
]

-- a name differs from itself nowhere
pub same_itself : (n : Name) → same_name n n ≡ true
same_itself n = and_from _ _ ((bytes_eq-Decides n.ns n.ns).1 refl) ((bytes_eq-Decides n.local n.local).1 refl)

pub same_name_is : (n m : Name) → same_name n m ≡ true → n ≡ m
same_name_is n m h = let w = and_parts (bytes_eq n.ns m.ns) (bytes_eq n.local m.local) h in same_fields n m (same_bytes n.ns m.ns w.0) (same_bytes n.local m.local w.1)

other_of : (c : Class) (n : Name) → Overlap (rest_of c n) any_name → OtherName c n
other_of c n o =
    let w = and_parts (is_xml_name o.name) (covers (rest_of c n) o.name) o.first in
    let v = and_parts (covers c o.name) (not (same_name o.name n || same_name o.name xmlns)) w.1 in
    let u = or_parts (same_name o.name n) (same_name o.name xmlns) (not-true _ v.1) in
    record {
      name = o.name;
      has = and_from _ _ (and_from _ _ w.0 (not_from_false _ u.1)) v.0;
      other = λ e. false≢true (sym u.0 ∙ subst (λ m. same_name o.name m ≡ true) e (same_itself o.name));
    }

-- ---- what is there is told of

pub found_by_ns : (x c : Class) (n : Name) (ns : List ℕ) → class_mentions_ns x ns ≡ true → (is_namespace ns && covers_others_in c ns) ≡ true → other_at x c n ≡ true
found_by_ns any_name c n ns h e = absurd (false≢true h)
found_by_ns (ns_name of) c n ns h e = subst (λ x. (is_namespace x && covers_others_in c x) ≡ true) (same_bytes ns of h) e
found_by_ns (the_name m) c n ns h e = or_right (has_attribute_name c m && not (same_name m n)) _ (subst (λ x. (is_namespace x && covers_others_in c x) ≡ true) (same_bytes ns m.ns h) e)
found_by_ns (either x y) c n ns h e = elim (or_cases (class_mentions_ns x ns) (class_mentions_ns y ns) h) [
  | inl f ↦ or_left _ _ (found_by_ns x c n ns f e)
  | inr f ↦ or_right (other_at x c n) _ (found_by_ns y c n ns f e)
]
found_by_ns (without x y) c n ns h e = elim (or_cases (class_mentions_ns x ns) (class_mentions_ns y ns) h) [
  | inl f ↦ or_left _ _ (found_by_ns x c n ns f e)
  | inr f ↦ or_right (other_at x c n) _ (found_by_ns y c n ns f e)
]

found_by_name : (x c : Class) (n m : Name) → class_mentions x m ≡ true → has_attribute_name c m ≡ true → same_name m n ≡ false → other_at x c n ≡ true
found_by_name any_name c n m h e f = absurd (false≢true h)
found_by_name (ns_name of) c n m h e f = absurd (false≢true h)
found_by_name (the_name k) c n m h e f = or_left _ _ (subst (λ x. (has_attribute_name c x && not (same_name x n)) ≡ true) (same_name_is m k h) (and_from _ _ e (not_from_false _ f)))
found_by_name (either x y) c n m h e f = elim (or_cases (class_mentions x m) (class_mentions y m) h) [
  | inl i ↦ or_left _ _ (found_by_name x c n m i e f)
  | inr i ↦ or_right (other_at x c n) _ (found_by_name y c n m i e f)
]
found_by_name (without x y) c n m h e f = elim (or_cases (class_mentions x m) (class_mentions y m) h) [
  | inl i ↦ or_left _ _ (found_by_name x c n m i e f)
  | inr i ↦ or_right (other_at x c n) _ (found_by_name y c n m i e f)
]

found : (c : Class) (n m : Name) → has_attribute_name c m ≡ true → same_name m n ≡ false → (covers_others c || other_at c c n) ≡ true
found c n m h f =
    let w = and_parts (is_attribute_name m) (covers c m) h in
    let ns = (and_parts (is_namespace m.ns) _ (and_parts (is_xml_name m) _ w.0).0).0 in
    elim (cases_Bool (class_mentions c m)) [
      | inl e ↦ or_right (covers_others c) _ (found_by_name c c n m e h f)
      | inr e ↦ elim (cases_Bool (class_mentions_ns c m.ns)) [
        | inl i ↦ or_right (covers_others c) _ (found_by_ns c c n m.ns i (and_from _ _ ns (sym (covers-unmentioned c m e) ∙ w.1)))
        | inr i ↦ or_left _ _ (sym (covers-other_namespace c m i) ∙ w.1)
      ]
    ]

-- of two names of a class one differs from a third that isn't in it
other_than : (c : Class) (n m : Name) → has_attribute_name c m ≡ true → has_attribute_name c n ≡ false → OtherName c n
other_than c n m h f = record { name = m; has = h; other = λ e. false≢true (sym f ∙ subst (λ k. has_attribute_name c k ≡ true) e h) }

not_false : (b : Bool) → not b ≡ false → b ≡ true
not_false true h = refl
not_false false h = sym h

alone : (c : Class) (n m : Name) → has_attribute_name c m ≡ true → has_only c n ≡ true → m ≡ n
alone c n m k h =
    let w = and_parts (has_attribute_name c n) (not (covers_others c || other_at c c n)) h in
    elim (cases_Bool (same_name m n)) [
      | inl e ↦ same_name_is m n e
      | inr e ↦ absurd (false≢true (sym (not-true _ w.1) ∙ found c n m k e))
    ]

another : (c : Class) (n m : Name) → has_attribute_name c m ≡ true → has_only c n ≡ false → OtherName c n
another c n m k h = elim (cases_Bool (has_attribute_name c n)) [
  | inl e ↦ other_of c n (overlap_is_there (rest_of c n) any_name (meets c n (not_false (covers_others c || other_at c c n) (sym (both e) ∙ h))))
  | inr e ↦ other_than c n m k e
]
  where
    both : has_attribute_name c n ≡ true → has_only c n ≡ not (covers_others c || other_at c c n)
    both e = rw e refl

pub only_is_exact : OnlyIsExact
only_is_exact c n m k = (λ h. alone c n m k h, λ h. another c n m k h)
