-- What is kept small matches what the plain constructors match.
use Rattle.std.proofs.Common.{◌≡◌, ℕ, List, [], ◌∷◌, Bool, true, false, ◌||◌, ◌&&◌, ◌==◌, refl, ap, sym, subst, inl, inr, ◌⊎◌, ⊎_elim, arith}
use Rattle.std.specs.Prelude.{if◌then◌else◌}
use Rattle.nx_base.specs.Trees.{Attribute, Children, nil, string, element}
use Rattle.rng_core.specs.Patterns.{Pattern, Definition, not_allowed, empty, any_text, typed, literal, listed, attribute, ref, one_or_more, choice, group, interleave}
use Rattle.rng_core.specs.Matching.{Split, no_attribute, to_first, to_second, InOrder, then_second, string_of_first, element_of_first, Shuffle, no_child, string_to_first, string_to_second, element_to_first, element_to_second, Matches, by_empty, by_first, by_second, by_group, by_interleave}
use Rattle.rng_core.specs.Equality.{same_pattern}
use Rattle.rng_core.proofs.Same.{patterns_decided}
use Rattle.rng_kept.specs.SmallPatterns.{is_not_allowed, is_empty, is_side, with_side, choice_of, group_of, interleave_of}

pub is_not_allowed-is : (p : Pattern) → is_not_allowed p ≡ true → p ≡ not_allowed
is_not_allowed-is not_allowed h = refl
is_not_allowed-is empty h = cc
is_not_allowed-is any_text h = cc
is_not_allowed-is (typed t e) h = cc
is_not_allowed-is (literal t v) h = cc
is_not_allowed-is (listed p) h = cc
is_not_allowed-is (attribute c p) h = cc
is_not_allowed-is (ref i) h = cc
is_not_allowed-is (one_or_more p) h = cc
is_not_allowed-is (choice p q) h = cc
is_not_allowed-is (group p q) h = cc
is_not_allowed-is (interleave p q) h = cc

pub is_empty-is : (p : Pattern) → is_empty p ≡ true → p ≡ empty
is_empty-is not_allowed h = cc
is_empty-is empty h = refl
is_empty-is any_text h = cc
is_empty-is (typed t e) h = cc
is_empty-is (literal t v) h = cc
is_empty-is (listed p) h = cc
is_empty-is (attribute c p) h = cc
is_empty-is (ref i) h = cc
is_empty-is (one_or_more p) h = cc
is_empty-is (choice p q) h = cc
is_empty-is (group p q) h = cc
is_empty-is (interleave p q) h = cc

pub and_true : (a b : Bool) → (a && b) ≡ true → (a ≡ true) × (b ≡ true)
and_true true b h = (refl, h)
and_true false b h = cc

-- two patterns that are found the same are one
pub same_is : (p r : Pattern) → same_pattern p r ≡ true → p ≡ r
same_is p r h = (patterns_decided p r).0 h

pub split_all : (a : List Attribute) → Split a a []
split_all [] = no_attribute
split_all (x ∷ a) = to_first (split_all a)

pub split_none : (a : List Attribute) → Split a [] a
split_none [] = no_attribute
split_none (x ∷ a) = to_second (split_none a)

pub split_all_is : {a x : List Attribute} → Split a x [] → a ≡ x
split_all_is no_attribute = refl
split_all_is (to_first {a = a} s) = ap (λ v. a ∷ v) (split_all_is s)

pub split_none_is : {a x : List Attribute} → Split a [] x → a ≡ x
split_none_is no_attribute = refl
split_none_is (to_second {a = a} s) = ap (λ v. a ∷ v) (split_none_is s)

pub order_all : (c : Children) → InOrder c c nil
order_all nil = then_second
order_all (string t r) = string_of_first (order_all r)
order_all (element n a k r) = element_of_first (order_all r)

pub order_all_is : {c x : Children} → InOrder c x nil → c ≡ x
order_all_is then_second = refl
order_all_is (string_of_first {text = t} o) = ap (λ v. string t v) (order_all_is o)
order_all_is (element_of_first {n = n} {a = a} {k = k} o) = ap (λ v. element n a k v) (order_all_is o)

pub order_none_is : {c x : Children} → InOrder c nil x → c ≡ x
order_none_is then_second = refl

pub shuffle_all : (c : Children) → Shuffle c c nil
shuffle_all nil = no_child
shuffle_all (string t r) = string_to_first (shuffle_all r)
shuffle_all (element n a k r) = element_to_first (shuffle_all r)

pub shuffle_none : (c : Children) → Shuffle c nil c
shuffle_none nil = no_child
shuffle_none (string t r) = string_to_second (shuffle_none r)
shuffle_none (element n a k r) = element_to_second (shuffle_none r)

pub shuffle_all_is : {c x : Children} → Shuffle c x nil → c ≡ x
shuffle_all_is no_child = refl
shuffle_all_is (string_to_first {text = t} o) = ap (λ v. string t v) (shuffle_all_is o)
shuffle_all_is (element_to_first {n = n} {a = a} {k = k} o) = ap (λ v. element n a k v) (shuffle_all_is o)

pub shuffle_none_is : {c x : Children} → Shuffle c nil x → c ≡ x
shuffle_none_is no_child = refl
shuffle_none_is (string_to_second {text = t} o) = ap (λ v. string t v) (shuffle_none_is o)
shuffle_none_is (element_to_second {n = n} {a = a} {k = k} o) = ap (λ v. element n a k v) (shuffle_none_is o)

-- matching along equations
pub along : {g : List Definition} (p : Pattern) (a a' : List Attribute) (c c' : Children) → a' ≡ a → c' ≡ c → Matches g p a c → Matches g p a' c'
along {g = g} p a a' c c' e f m = rw (e, f) m

pub nothing_inv : {g : List Definition} {a : List Attribute} {c : Children} → Matches g empty a c → (a ≡ []) × (c ≡ nil)
nothing_inv by_empty = (refl, refl)

pub seq_nothing : {g : List Definition} {q : Pattern} {a : List Attribute} {c : Children} → Matches g (group empty q) a c → Matches g q a c
seq_nothing {q = q} (by_group {a = a} {a1 = a1} {a2 = a2} {c = c} {c1 = c1} {c2 = c2} s o m1 m2) =
    let e = nothing_inv m1 in
    along q _ _ _ _ (split_none_is (subst (λ v. Split a v a2) e.0 s)) (order_none_is (subst (λ v. InOrder c v c2) e.1 o)) m2

pub nothing_seq : {g : List Definition} {p : Pattern} {a : List Attribute} {c : Children} → Matches g (group p empty) a c → Matches g p a c
nothing_seq {p = p} (by_group {a = a} {a1 = a1} {a2 = a2} {c = c} {c1 = c1} {c2 = c2} s o m1 m2) =
    let e = nothing_inv m2 in
    along p _ _ _ _ (split_all_is (subst (λ v. Split a a1 v) e.0 s)) (order_all_is (subst (λ v. InOrder c c1 v) e.1 o)) m1

mix_nothing : {g : List Definition} {q : Pattern} {a : List Attribute} {c : Children} → Matches g (interleave empty q) a c → Matches g q a c
mix_nothing {q = q} (by_interleave {a = a} {a1 = a1} {a2 = a2} {c = c} {c1 = c1} {c2 = c2} s o m1 m2) =
    let e = nothing_inv m1 in
    along q _ _ _ _ (split_none_is (subst (λ v. Split a v a2) e.0 s)) (shuffle_none_is (subst (λ v. Shuffle c v c2) e.1 o)) m2

nothing_mix : {g : List Definition} {p : Pattern} {a : List Attribute} {c : Children} → Matches g (interleave p empty) a c → Matches g p a c
nothing_mix {p = p} (by_interleave {a = a} {a1 = a1} {a2 = a2} {c = c} {c1 = c1} {c2 = c2} s o m1 m2) =
    let e = nothing_inv m2 in
    along p _ _ _ _ (split_all_is (subst (λ v. Split a a1 v) e.0 s)) (shuffle_all_is (subst (λ v. Shuffle c c1 v) e.1 o)) m1

pub never_no : {X : Type 0} {g : List Definition} {a : List Attribute} {c : Children} → Matches g not_allowed a c → X
never_no m = elim m [ ]

pub or_never : {g : List Definition} {q : Pattern} {a : List Attribute} {c : Children} → Matches g (choice not_allowed q) a c → Matches g q a c
or_never (by_first m) = never_no m
or_never (by_second m) = m

pub never_or : {g : List Definition} {p : Pattern} {a : List Attribute} {c : Children} → Matches g (choice p not_allowed) a c → Matches g p a c
never_or (by_first m) = m
never_or (by_second m) = never_no m

pub seq_never : {X : Type 0} {g : List Definition} {q : Pattern} {a : List Attribute} {c : Children} → Matches g (group not_allowed q) a c → X
seq_never (by_group s o m1 m2) = never_no m1

pub never_seq : {X : Type 0} {g : List Definition} {p : Pattern} {a : List Attribute} {c : Children} → Matches g (group p not_allowed) a c → X
never_seq (by_group s o m1 m2) = never_no m2

pub mix_never : {X : Type 0} {g : List Definition} {q : Pattern} {a : List Attribute} {c : Children} → Matches g (interleave not_allowed q) a c → X
mix_never (by_interleave s o m1 m2) = never_no m1

pub never_mix : {X : Type 0} {g : List Definition} {p : Pattern} {a : List Attribute} {c : Children} → Matches g (interleave p not_allowed) a c → X
never_mix (by_interleave s o m1 m2) = never_no m2

-- a choice by a test whose value is known in each case
pub by_test : {A : Type 0} (F : A → Type 0) (b : Bool) (x y : A) → (b ≡ true → F x) → (b ≡ false → F y) → F (if b then x else y)
by_test F true x y f h = f refl
by_test F false x y f h = h refl

pub or_true : (a b : Bool) → (a || b) ≡ true → (a ≡ true) ⊎ (b ≡ true)
or_true true b h = inl refl
or_true false b h = inr h

-- two patterns that match the same
pub record Same (g : List Definition) (p q : Pattern) : Type 0 where
  pub to : {a : List Attribute} {c : Children} → Matches g p a c → Matches g q a c
  pub from : {a : List Attribute} {c : Children} → Matches g q a c → Matches g p a c

pub or_sides : {g : List Definition} {p q : Pattern} {a : List Attribute} {c : Children} → Matches g (choice p q) a c → Matches g p a c ⊎ Matches g q a c
or_sides (by_first m) = inl m
or_sides (by_second m) = inr m

moved : {g : List Definition} (p q : Pattern) → p ≡ q → {a : List Attribute} {c : Children} → Matches g p a c → Matches g q a c
moved p q e m = rw (← e) m

side_in : {g : List Definition} (q p : Pattern) → is_side q p ≡ true → {a : List Attribute} {c : Children} → Matches g q a c → Matches g p a c
side_in q (choice l s) h m = ⊎_elim (λ e. by_first (side_in q l e m)) (λ e. by_second (moved q s (same_is q s e) m)) (or_true (is_side q l) (same_pattern q s) h)
side_in r not_allowed h m = moved r not_allowed (same_is r not_allowed h) m
side_in r empty h m = moved r empty (same_is r empty h) m
side_in r any_text h m = moved r any_text (same_is r any_text h) m
side_in r (typed t e) h m = moved r (typed t e) (same_is r (typed t e) h) m
side_in r (literal t v) h m = moved r (literal t v) (same_is r (literal t v) h) m
side_in r (listed p) h m = moved r (listed p) (same_is r (listed p) h) m
side_in r (attribute c p) h m = moved r (attribute c p) (same_is r (attribute c p) h) m
side_in r (ref i) h m = moved r (ref i) (same_is r (ref i) h) m
side_in r (one_or_more p) h m = moved r (one_or_more p) (same_is r (one_or_more p) h) m
side_in r (group p q) h m = moved r (group p q) (same_is r (group p q) h) m
side_in r (interleave p q) h m = moved r (interleave p q) (same_is r (interleave p q) h) m

with_side_same : (g : List Definition) (p q : Pattern) → Same g (with_side p q) (choice p q)
with_side_same g p q =
    by_test (λ r. Same g r (choice p q)) (is_not_allowed p) _ _
    (λ h. rw (is_not_allowed-is p h) (record { to = λ m. by_second m; from = λ m. or_never m }))
    (λ _. by_test (λ r. Same g r (choice p q)) (is_not_allowed q) _ _
    (λ h. rw (is_not_allowed-is q h) (record { to = λ m. by_first m; from = λ m. never_or m }))
    (λ _. by_test (λ r. Same g r (choice p q)) (is_side q p) _ _
    (λ h. record { to = λ m. by_first m; from = λ m. ⊎_elim (λ n. n) (λ n. side_in q p h n) (or_sides m) })
    (λ _. record { to = λ m. m; from = λ m. m })))

pub or_same : (g : List Definition) (p q : Pattern) → Same g (choice_of p q) (choice p q)
or_same g p (choice a b) =
    let one = or_same g p a in
    let two = or_same g (choice_of p a) b in
    record {
      to = λ m. ⊎_elim (λ n. ⊎_elim (λ l. by_first l) (λ l. by_second (by_first l)) (or_sides (one.to n))) (λ n. by_second (by_second n)) (or_sides (two.to m));
      from = λ m. two.from (⊎_elim (λ n. by_first (one.from (by_first n))) (λ n. ⊎_elim (λ l. by_first (one.from (by_second l))) (λ l. by_second l) (or_sides n)) (or_sides m));
    }
or_same g r not_allowed = with_side_same g r not_allowed
or_same g r empty = with_side_same g r empty
or_same g r any_text = with_side_same g r any_text
or_same g r (typed t e) = with_side_same g r (typed t e)
or_same g r (literal t v) = with_side_same g r (literal t v)
or_same g r (listed p) = with_side_same g r (listed p)
or_same g r (attribute c p) = with_side_same g r (attribute c p)
or_same g r (ref i) = with_side_same g r (ref i)
or_same g r (one_or_more p) = with_side_same g r (one_or_more p)
or_same g r (group p q) = with_side_same g r (group p q)
or_same g r (interleave p q) = with_side_same g r (interleave p q)

pub seq_same : (g : List Definition) (p q : Pattern) → Same g (group_of p q) (group p q)
seq_same g p q =
    by_test (λ r. Same g r (group p q)) (is_not_allowed p || is_not_allowed q) _ _
    (λ h. ⊎_elim (λ e. rw (is_not_allowed-is p e) (record { to = λ m. never_no m; from = λ m. seq_never m })) (λ e. rw (is_not_allowed-is q e) (record { to = λ m. never_no m; from = λ m. never_seq m })) (or_true _ _ h))
    (λ _. by_test (λ r. Same g r (group p q)) (is_empty p) _ _
    (λ h. rw (is_empty-is p h) (record { to = λ m. by_group (split_none _) then_second by_empty m; from = λ m. seq_nothing m }))
    (λ _. by_test (λ r. Same g r (group p q)) (is_empty q) _ _
    (λ h. rw (is_empty-is q h) (record { to = λ m. by_group (split_all _) (order_all _) m by_empty; from = λ m. nothing_seq m }))
    (λ _. record { to = λ m. m; from = λ m. m })))

pub mix_same : (g : List Definition) (p q : Pattern) → Same g (interleave_of p q) (interleave p q)
mix_same g p q =
    by_test (λ r. Same g r (interleave p q)) (is_not_allowed p || is_not_allowed q) _ _
    (λ h. ⊎_elim (λ e. rw (is_not_allowed-is p e) (record { to = λ m. never_no m; from = λ m. mix_never m })) (λ e. rw (is_not_allowed-is q e) (record { to = λ m. never_no m; from = λ m. never_mix m })) (or_true _ _ h))
    (λ _. by_test (λ r. Same g r (interleave p q)) (is_empty p) _ _
    (λ h. rw (is_empty-is p h) (record { to = λ m. by_interleave (split_none _) (shuffle_none _) by_empty m; from = λ m. mix_nothing m }))
    (λ _. by_test (λ r. Same g r (interleave p q)) (is_empty q) _ _
    (λ h. rw (is_empty-is q h) (record { to = λ m. by_interleave (split_all _) (shuffle_all _) m by_empty; from = λ m. nothing_mix m }))
    (λ _. record { to = λ m. m; from = λ m. m })))
