-- Lists of names as sets, and classes that have one name alone.
use Rattle.std.specs.Prelude.{◌≡◌, ◌≤◌, ◌+◌, ℕ, zero, suc, length, ◌++◌, Bool, true, false, not, ◌&&◌, ◌||◌, List, [], ◌∷◌, ◌⊎◌, Option, Some, None, Contains, if◌then◌else◌}
use Rattle.std.specs.List.{filter}
use Rattle.std.proofs.Common.{refl, sym, ap, ◌∙◌, subst, inl, inr, arith}
use Rattle.std.proofs.lemmas.Bool.{false≢true, cases_Bool, and_parts, and_from, or_left, or_right, or_cases, not_from_false, not-true}
use Rattle.std.proofs.lemmas.List.{length-append}
use Rattle.std.proofs.lemmas.List.Folds.{list_any-append}
use Rattle.nx_base.specs.declared.name.Name.{Name}
use Rattle.nx_base.specs.Names.{is_namespace, is_xml_name, same_name}
use Rattle.rng_core.specs.Names.{Class, any_name, ns_name, the_name, either, without, covers, has_name}
use Rattle.rng_core.specs.Unmentioned.{covers_others_in, covers_others, share_others_in, meets_at, overlaps}
use Rattle.rng_core.proofs.Overlaps.{overlap_is_found, overlap_is_there, same_bytes}
use Rattle.rng_kept.specs.Mentioned.{class_mentions, class_mentions_ns}
use Rattle.rng_kept.specs.Needed.{is_in, common, either_way, class_names, is_sole}
use Rattle.rng_residual.proofs.Mentioned.{covers-unmentioned, covers-other_namespace}
use Rattle.rng_residual.proofs.SoleNames.{same_itself, same_name_is}
use Rattle.rng_residual.specs.Needed.{OtherElementName, SoleIsExact}

-- ---- lists of names

pub in_append : (n : Name) (xs ys : List Name) → is_in n (xs ++ ys) ≡ (is_in n xs || is_in n ys)
in_append n xs ys = list_any-append (same_name n) xs ys

in_kept : (b : Bool) (n x : Name) (rest : List Name) → is_in n (if b then x ∷ rest else rest) ≡ ((same_name n x && b) || is_in n rest)
in_kept true n x rest = with_true (same_name n x) (is_in n rest)
  where
    with_true : (a c : Bool) → (a || c) ≡ ((a && true) || c)
    with_true true c = refl
    with_true false c = refl
in_kept false n x rest = with_false (same_name n x) (is_in n rest)
  where
    with_false : (a c : Bool) → c ≡ ((a && false) || c)
    with_false true c = refl
    with_false false c = refl

-- those that pass a test
pub in_filter : (test : Name → Bool) (n : Name) (xs : List Name) → is_in n (filter test xs) ≡ (is_in n xs && test n)
in_filter test n [] = refl
in_filter test n (x ∷ xs) = in_kept (test x) n x (filter test xs) ∙ go (same_name n x) refl (in_filter test n xs)
  where
    go : (s : Bool) → same_name n x ≡ s → is_in n (filter test xs) ≡ (is_in n xs && test n) → ((s && test x) || is_in n (filter test xs)) ≡ ((s || is_in n xs) && test n)
    go false e h = h
    go true e h =
        let same : test x ≡ test n = ap test (sym (same_name_is n x e)) in
        both (test x) (test n) (is_in n (filter test xs)) (is_in n xs) same h
      where
        both : (a b c d : Bool) → a ≡ b → c ≡ (d && b) → (a || c) ≡ b
        both true b c d e h = e
        both false b c d e h = h ∙ and_false d b (sym e) ∙ e
          where
            and_false : (d b : Bool) → b ≡ false → (d && b) ≡ false
            and_false true b e = e
            and_false false b e = refl

pub in_common : (n : Name) (xs ys : List Name) → is_in n (common xs ys) ≡ (is_in n xs && is_in n ys)
in_common n xs ys = in_filter (λ m. is_in m ys) n xs

pub in_contained : (n : Name) (xs : List Name) → Contains xs n → is_in n xs ≡ true
in_contained n [] (k, lt, e) = absurd (omega arith)
in_contained n (x ∷ xs) (zero, lt, e) = or_left _ _ (subst (λ (m : Name). same_name n m ≡ true) (sym e) (same_itself n))
in_contained n (x ∷ xs) (suc k, lt, e) = or_right (same_name n x) _ (in_contained n xs (k, omega arith, e))

pub contained_in : (n : Name) (xs : List Name) → is_in n xs ≡ true → Contains xs n
contained_in n [] h = absurd (false≢true h)
contained_in n (x ∷ xs) h = elim (or_cases (same_name n x) (is_in n xs) h) [
  | inl e ↦ (zero, omega arith, sym (same_name_is n x e))
  | inr e ↦ let c = contained_in n xs e in (suc c.0, omega (arith, c.1), c.2)
]

-- ---- a name that isn't in a list, since its local part is longer than those that are

local_beyond : List Name → List ℕ
local_beyond [] = []
local_beyond (x ∷ xs) = 0 ∷ (x.local ++ local_beyond xs)

not_in : (n : Name) (xs : List Name) → length (local_beyond xs) ≤ length n.local → is_in n xs ≡ false
unfolding local_beyond
not_in n [] le = refl
not_in n (x ∷ xs) le =
    let long : length (x.local ++ local_beyond xs) ≡ length x.local + length (local_beyond xs) = length-append x.local (local_beyond xs) in
    let more : length (local_beyond (x ∷ xs)) ≡ suc (length (x.local ++ local_beyond xs)) = refl in
    elim (cases_Bool (is_in n (x ∷ xs))) [
      | inl e ↦ elim (or_cases (same_name n x) (is_in n xs) e) [
        | inl same ↦ let equal : length n.local ≡ length x.local = ap (λ (m : Name). length m.local) (same_name_is n x same) in absurd (omega (arith, le, long, more, equal))
        | inr later ↦ absurd (false≢true (sym (not_in n xs (omega (arith, le, long, more))) ∙ later))
      ]
      | inr e ↦ e
    ]

pub outside : (xs : List Name) → (n : Name) × (is_in n xs ≡ false)
outside xs =
    let n : Name = record { ns = []; local = local_beyond xs } in
    (n, not_in n xs (omega arith))

-- ---- what is needed either way

-- names among which are no others than these
pub record Within (s : Option (List Name)) (names : List Name) : Type 0 where
  pub all : List Name
  pub is : s ≡ Some all
  pub within : (n : Name) → is_in n all ≡ true → is_in n names ≡ true

pub first_way : (s t : Option (List Name)) (names : List Name) → s ≡ Some names → Within (either_way s t) names
first_way s None names e = rw e (record { all = names; is = refl; within = λ n h. h })
first_way s (Some others) names e = rw e (record {
  all = common names others;
  is = refl;
  within = λ n h. (and_parts (is_in n names) (is_in n others) (sym (in_common n names others) ∙ h)).0;
})

pub second_way : (s t : Option (List Name)) (names : List Name) → t ≡ Some names → Within (either_way s t) names
second_way None t names e = rw e (record { all = names; is = refl; within = λ n h. h })
second_way (Some others) t names e = rw e (record {
  all = common others names;
  is = refl;
  within = λ n h. (and_parts (is_in n others) (is_in n names) (sym (in_common n others names) ∙ h)).1;
})

-- a way that doesn't need a name
pub record Spares (s : Option (List Name)) (n : Name) : Type 0 where
  pub names : List Name
  pub is : s ≡ Some names
  pub lacks : is_in n names ≡ false

pub one_spares : (s t : Option (List Name)) (n : Name) → Spares (either_way s t) n → Spares s n ⊎ Spares t n
one_spares None t n w = inr w
one_spares (Some names) None n w = inl w
one_spares (Some names) (Some others) n w =
    let same : common names others ≡ w.names = cc in
    go (is_in n names) refl (sym (in_common n names others) ∙ (ap (λ (ns : List Name). is_in n ns) same ∙ w.lacks))
  where
    go : (b : Bool) → is_in n names ≡ b → (b && is_in n others) ≡ false → Spares (Some names) n ⊎ Spares (Some others) n
    go true e h = inr (record { names = others; is = refl; lacks = h })
    go false e h = inl (record { names = names; is = refl; lacks = e })

-- ---- classes of one name

found_ns : (x c : Class) (ns : List ℕ) → class_mentions_ns x ns ≡ true → share_others_in c any_name ns ≡ true → meets_at x c any_name ≡ true
found_ns any_name c ns h e = absurd (false≢true h)
found_ns (ns_name of) c ns h e = subst (λ y. share_others_in c any_name y ≡ true) (same_bytes ns of h) e
found_ns (the_name m) c ns h e = or_right (has_name c m && has_name any_name m) _ (subst (λ y. share_others_in c any_name y ≡ true) (same_bytes ns m.ns h) e)
found_ns (either x y) c ns h e = elim (or_cases (class_mentions_ns x ns) (class_mentions_ns y ns) h) [
  | inl f ↦ or_left _ _ (found_ns x c ns f e)
  | inr f ↦ or_right (meets_at x c any_name) _ (found_ns y c ns f e)
]
found_ns (without x y) c ns h e = elim (or_cases (class_mentions_ns x ns) (class_mentions_ns y ns) h) [
  | inl f ↦ or_left _ _ (found_ns x c ns f e)
  | inr f ↦ or_right (meets_at x c any_name) _ (found_ns y c ns f e)
]

-- a class that has a name which it doesn't mention has others
others_there : (c : Class) (n : Name) → has_name c n ≡ true → class_mentions c n ≡ false → overlaps (without c (the_name n)) any_name ≡ true
others_there c n h e =
    let rest : Class = without c (the_name n) in
    let w = and_parts (is_xml_name n) (covers c n) h in
    let ns = (and_parts (is_namespace n.ns) _ w.0).0 in
    elim (cases_Bool (class_mentions_ns c n.ns)) [
      | inl i ↦
          let here : covers_others_in c n.ns ≡ true = sym (covers-unmentioned c n e) ∙ w.1 in
          let others : covers_others_in rest n.ns ≡ true = rw here refl in
          let shared : share_others_in rest any_name n.ns ≡ true = rw (ns, others) refl in
          let met : meets_at rest rest any_name ≡ true = or_left _ _ (found_ns c rest n.ns i shared) in
          or_right (covers_others rest && covers_others any_name) _ (or_left _ _ met)
      | inr i ↦
          let here : covers_others c ≡ true = sym (covers-other_namespace c n i) ∙ w.1 in
          let others : (covers_others rest && covers_others any_name) ≡ true = rw here refl in
          or_left _ _ others
    ]

sole_mentioned : (c : Class) (n : Name) → is_sole c n ≡ true → class_mentions c n ≡ true
sole_mentioned c n h =
    let w = and_parts (has_name c n) (not (overlaps (without c (the_name n)) any_name)) h in
    elim (cases_Bool (class_mentions c n)) [
      | inl e ↦ e
      | inr e ↦ absurd (false≢true (sym (not-true _ w.1) ∙ others_there c n w.0 e))
    ]

pub mentioned_named : (c : Class) (n : Name) → class_mentions c n ≡ true → is_in n (class_names c) ≡ true
mentioned_named any_name n h = h
mentioned_named (ns_name of) n h = h
mentioned_named (the_name m) n h = or_left _ _ h
mentioned_named (either c d) n h = in_append n (class_names d) (class_names c) ∙ elim (or_cases (class_mentions c n) (class_mentions d n) h) [
  | inl e ↦ or_right (is_in n (class_names d)) _ (mentioned_named c n e)
  | inr e ↦ or_left _ _ (mentioned_named d n e)
]
mentioned_named (without c d) n h = in_append n (class_names d) (class_names c) ∙ elim (or_cases (class_mentions c n) (class_mentions d n) h) [
  | inl e ↦ or_right (is_in n (class_names d)) _ (mentioned_named c n e)
  | inr e ↦ or_left _ _ (mentioned_named d n e)
]

-- a name of the class is the sole one
alone : (c : Class) (n m : Name) → has_name c m ≡ true → is_sole c n ≡ true → m ≡ n
alone c n m k h =
    let w = and_parts (has_name c n) (not (overlaps (without c (the_name n)) any_name)) h in
    let v = and_parts (is_xml_name m) (covers c m) k in
    elim (cases_Bool (same_name m n)) [
      | inl e ↦ same_name_is m n e
      | inr e ↦
          let other : has_name (without c (the_name n)) m ≡ true = and_from _ _ v.0 (and_from _ _ v.1 (not_from_false _ e)) in
          let any : has_name any_name m ≡ true = and_from _ _ v.0 refl in
          absurd (false≢true (sym (not-true _ w.1) ∙ overlap_is_found (without c (the_name n)) any_name (record { name = m; first = other; second = any })))
    ]

not_false : (b : Bool) → not b ≡ false → b ≡ true
not_false true h = refl
not_false false h = sym h

-- where a name isn't the sole one the class has another
another : (c : Class) (n m : Name) → has_name c m ≡ true → is_sole c n ≡ false → OtherElementName c n
another c n m k h = elim (cases_Bool (has_name c n)) [
  | inl e ↦
      let o = overlap_is_there (without c (the_name n)) any_name (not_false (overlaps (without c (the_name n)) any_name) (sym (both e) ∙ h)) in
      let w = and_parts (is_xml_name o.name) (covers (without c (the_name n)) o.name) o.first in
      let v = and_parts (covers c o.name) (not (same_name o.name n)) w.1 in
      record {
        name = o.name;
        has = and_from _ _ w.0 v.0;
        other = λ f. false≢true (sym (not-true _ v.1) ∙ subst (λ (y : Name). same_name o.name y ≡ true) f (same_itself o.name));
      }
  | inr e ↦ record { name = m; has = k; other = λ f. false≢true (sym e ∙ subst (λ (y : Name). has_name c y ≡ true) f k) }
]
  where
    both : has_name c n ≡ true → is_sole c n ≡ not (overlaps (without c (the_name n)) any_name)
    both e = rw e refl

-- of a class that isn't written as one name
by_test : (c : Class) (n m : Name) → has_name c m ≡ true → (is_in n (filter (is_sole c) (class_names c)) ≡ true → m ≡ n) × (is_in n (filter (is_sole c) (class_names c)) ≡ false → OtherElementName c n)
by_test c n m k = (
  λ h. alone c n m k (and_parts (is_in n (class_names c)) (is_sole c n) (sym (in_filter (is_sole c) n (class_names c)) ∙ h)).1,
  λ h. elim (cases_Bool (is_sole c n)) [
    | inl e ↦ absurd (false≢true (sym h ∙ (in_filter (is_sole c) n (class_names c) ∙ and_from _ _ (mentioned_named c n (sole_mentioned c n e)) e)))
    | inr e ↦ another c n m k e
  ],
)

pub sole_is_exact : SoleIsExact
sole_is_exact any_name n m k = by_test any_name n m k
sole_is_exact (ns_name ns) n m k = by_test (ns_name ns) n m k
sole_is_exact (either c d) n m k = by_test (either c d) n m k
sole_is_exact (without c d) n m k = by_test (without c d) n m k
sole_is_exact (the_name o) n m k =
    let w = and_parts (is_xml_name m) (same_name m o) k in
    let same = same_name_is m o w.1 in
    let xml : is_xml_name o ≡ true = subst (λ (y : Name). is_xml_name y ≡ true) same w.0 in
    let alone_here : is_in n (if is_xml_name o then o ∷ [] else []) ≡ (same_name n o || false) = rw xml refl in (
      λ h. elim (or_cases (same_name n o) false (sym alone_here ∙ h)) [
        | inl e ↦ same ∙ sym (same_name_is n o e)
        | inr e ↦ absurd (false≢true e)
      ],
      λ h. record {
        name = m;
        has = k;
        other = λ f. false≢true (sym h ∙ (alone_here ∙ or_left _ _ (subst (λ (y : Name). same_name y o ≡ true) f (subst (λ (y : Name). same_name m y ≡ true) same (same_itself m)))));
      },
    )
