-- The definitions that have a name, from a number on.
use Rattle.std.specs.Prelude.{◌≡◌, ℕ, ◌+◌, ◌≤◌, ◌<◌, List, [], ◌∷◌, Bool, true, false, ◌||◌, map, length, if◌then◌else◌}
use Rattle.std.proofs.Common.{zero, suc, get_or, drop, refl, sym, ap, ◌∙◌, arith}
use Rattle.std.proofs.lemmas.Bool.{ne_eqb}
use Rattle.nx_base.specs.declared.name.Name.{Name}
use Rattle.rng_core.specs.declared.grammar.Def.{Def}
use Rattle.rng_core.specs.Equality.{same_pattern}
use Rattle.rng_core.specs.Meaning.{definition_of}
use Rattle.rng_core.specs.Names.{has_name}
use Rattle.rng_core.specs.Patterns.{Pattern, Definition, not_allowed, ref, choice}
use Rattle.rng_kept.specs.SmallPatterns.{is_not_allowed, is_side, choice_of}
use Rattle.rng_kept.specs.Standing.{known_from}
use Rattle.deriv_pattern.specs.Leaves.{IsInOrder, LeftInOrder}
use Rattle.deriv_plain.specs.Known.{with_ref, with_known}

-- each side of a test, by its own equation
either_same : (b : Bool) (x y v w : Pattern) → x ≡ v → y ≡ w → (if b then x else y) ≡ (if b then v else w)
either_same true x y v w first second = first
either_same false x y v w first second = second

either_chosen : (b : Bool) (p x y v w : Pattern) → choice_of p x ≡ v → choice_of p y ≡ w → choice_of p (if b then x else y) ≡ (if b then v else w)
either_chosen true p x y v w first second = first
either_chosen false p x y v w first second = second

pub known_here : (b : Bool) (p q : Pattern) → b ≡ true → (if b then p else q) ≡ p
known_here true p q is = refl
known_here false p q is = cc

pub known_later : (b : Bool) (p q : Pattern) → b ≡ false → (if b then p else q) ≡ q
known_later true p q is = cc
known_later false p q is = refl

-- the same by choices that take no side twice
abbrev chosen : Pattern → List Definition → Name → ℕ → Pattern
chosen p [] n i = p
chosen p (d ∷ ds) n i = if has_name d.class n then chosen (choice_of p (ref i)) ds n (i + 1) else chosen p ds n (i + 1)

ref_behind : (q : Pattern) (i : ℕ) → is_not_allowed q ≡ false → with_ref q i ≡ choice q (ref i)
ref_behind q i some = known_later (is_not_allowed q) (ref i) (choice q (ref i)) some

-- a choice with these is these behind the choice
chosen_before : (ds : List Definition) (p q : Pattern) (n : Name) (i : ℕ) → is_not_allowed q ≡ false →
    choice_of p (with_known q ds n i) ≡ chosen (choice_of p q) ds n i
chosen_before [] p q n i some = refl
chosen_before (d ∷ ds) p q n i some = either_chosen (has_name d.class n) p (with_known (with_ref q i) ds n (i + 1)) (with_known q ds n (i + 1))
    (chosen (choice_of (choice_of p q) (ref i)) ds n (i + 1)) (chosen (choice_of p q) ds n (i + 1))
    (ap (λ x. choice_of p (with_known x ds n (i + 1))) (ref_behind q i some) ∙ chosen_before ds p (choice q (ref i)) n (i + 1) refl)
    (chosen_before ds p q n (i + 1) some)

or_neither : (b c : Bool) → b ≡ false → c ≡ false → (b || c) ≡ false
or_neither false false first second = refl
or_neither false true first second = second
or_neither true c first second = first

-- no later number stands in a pattern
abbrev IsBefore : ℕ → Pattern → Type 0
IsBefore i p = (j : ℕ) → i ≤ j → is_side (ref j) p ≡ false

another : (i j : ℕ) → i + 1 ≤ j → same_pattern (ref j) (ref i) ≡ false
another i j later = ne_eqb j i (λ (same : j ≡ i). let wrong : ⊥ = omega (arith, later, same) in wrong)

ref_added : (p : Pattern) (i : ℕ) → is_not_allowed p ≡ false → is_side (ref i) p ≡ false → choice_of p (ref i) ≡ choice p (ref i)
ref_added p i some new =
    known_later (is_not_allowed p) (ref i) (if is_side (ref i) p then p else choice p (ref i)) some
    ∙ known_later (is_side (ref i) p) p (choice p (ref i)) new

chosen_same : (ds : List Definition) (p : Pattern) (n : Name) (i : ℕ) → is_not_allowed p ≡ false → IsBefore i p →
    chosen p ds n i ≡ with_known p ds n i
chosen_same [] p n i some before = refl
chosen_same (d ∷ ds) p n i some before = either_same (has_name d.class n) (chosen (choice_of p (ref i)) ds n (i + 1)) (chosen p ds n (i + 1))
    (with_known (with_ref p i) ds n (i + 1)) (with_known p ds n (i + 1))
    (ap (λ x. chosen x ds n (i + 1)) (ref_added p i some (before i (omega arith)))
    ∙ (chosen_same ds (choice p (ref i)) n (i + 1) refl
    (λ j later. or_neither (is_side (ref j) p) (same_pattern (ref j) (ref i)) (before j (omega (arith, later))) (another i j later))
    ∙ ap (λ x. with_known x ds n (i + 1)) (sym (ref_behind p i some))))
    (chosen_same ds p n (i + 1) some (λ j later. before j (omega (arith, later))))

chosen_first : (ds : List Definition) (i k : ℕ) (n : Name) → choice_of (ref i) (with_known not_allowed ds n k) ≡ chosen (ref i) ds n k
chosen_first [] i k n = refl
chosen_first (d ∷ ds) i k n = either_chosen (has_name d.class n) (ref i) (with_known (ref k) ds n (k + 1)) (with_known not_allowed ds n (k + 1))
    (chosen (choice_of (ref i) (ref k)) ds n (k + 1)) (chosen (ref i) ds n (k + 1))
    (chosen_before ds (ref i) (ref k) n (k + 1) refl) (chosen_first ds i (k + 1) n)

-- they are the choice that is defined from the last one on
pub known_one_by_one : (ds : List Definition) (n : Name) (i : ℕ) → with_known not_allowed ds n i ≡ known_from ds n i
known_one_by_one [] n i = refl
known_one_by_one (d ∷ ds) n i = either_same (has_name d.class n) (with_known (ref i) ds n (i + 1)) (with_known not_allowed ds n (i + 1))
    (choice_of (ref i) (known_from ds n (i + 1))) (known_from ds n (i + 1))
    (sym (ap (λ x. choice_of (ref i) x) (sym (known_one_by_one ds n (i + 1)))
    ∙ (chosen_first ds i (i + 1) n ∙ chosen_same ds (ref i) n (i + 1) refl (λ j later. another i j later))))
    (known_one_by_one ds n (i + 1))

-- ---- along the code

-- the definitions from a place on
from_place : (defs : List Def) (i : ℕ) (d : Def) → i < length defs → d ≡ get_or defs i d →
    drop i (map definition_of defs) ≡ definition_of d ∷ drop (suc i) (map definition_of defs)
from_place [] i d inside at = absurd (omega arith)
from_place (e ∷ defs) zero d inside at = ap (λ x. definition_of x ∷ map definition_of defs) (sym at)
from_place (e ∷ defs) (suc i) d inside at = from_place defs i d (omega arith) at

-- one definition more
pub one_known : (defs : List Def) (name : Name) (p : Pattern) (i next : ℕ) (d : Def) → next ≡ suc i → i < length defs → d ≡ get_or defs i d →
    with_known p (drop i (map definition_of defs)) name i
    ≡ (if has_name ((definition_of d).class) name then with_known (with_ref p i) (drop next (map definition_of defs)) name next
    else with_known p (drop next (map definition_of defs)) name next)
one_known defs name p i next d is inside at =
    let K : Pattern → ℕ → ℕ → Pattern = λ x j k. with_known x (drop j (map definition_of defs)) name k in
    let behind : i + 1 ≡ next = omega arith in
    ap (λ ds. with_known p ds name i) (from_place defs i d inside at)
    ∙ (ap (λ k. if has_name ((definition_of d).class) name then K (with_ref p i) (suc i) k else K p (suc i) k) behind
    ∙ ap (λ j. if has_name ((definition_of d).class) name then K (with_ref p i) j next else K p j next) (sym is))

none_behind : (defs : List Def) (i : ℕ) → length defs ≤ i → drop i (map definition_of defs) ≡ []
none_behind [] zero all = refl
none_behind [] (suc i) all = refl
none_behind (e ∷ defs) zero all = absurd (omega arith)
none_behind (e ∷ defs) (suc i) all = none_behind defs i (omega arith)

-- none is left
pub all_known : (defs : List Def) (name : Name) (p : Pattern) (i : ℕ) → length defs ≤ i → with_known p (drop i (map definition_of defs)) name i ≡ p
all_known defs name p i all = ap (λ ds. with_known p ds name i) (none_behind defs i all)

-- ---- the choice is in order

either_in_order : (b : Bool) (p q : Pattern) → IsInOrder p → IsInOrder q → IsInOrder (if b then p else q)
either_in_order true p q h k = h
either_in_order false p q h k = k

pub known_in_order : LeftInOrder → (g : List Definition) (name : Name) (i : ℕ) → IsInOrder (known_from g name i)
known_in_order left [] name i = tt
known_in_order left (d ∷ g) name i =
    let rest = known_in_order left g name (i + 1) in
    either_in_order (has_name d.class name) (choice_of (ref i) (known_from g name (i + 1))) (known_from g name (i + 1))
    (left.choice_of (ref i) (known_from g name (i + 1)) tt rest) rest
