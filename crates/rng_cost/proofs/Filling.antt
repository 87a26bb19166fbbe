-- What leaves cost together.
use Rattle.std.proofs.Common.{◌≡◌, ◌≤◌, ℕ, List, [], Bool, true, false, refl, arith}
use Rattle.std.specs.Prelude.{min, nat_le, if◌then◌else◌}
use Rattle.std.specs.List.{sum_by}
use Rattle.std.proofs.lemmas.Bool.{leb-true, leb-false}
use Rattle.std.proofs.lemmas.List.Sums.{sum_by-append, sum_by-cons}
use Rattle.rng_core.specs.Patterns.{Pattern, not_allowed, empty, any_text, typed, literal, listed, attribute, ref, one_or_more}
use Rattle.rng_core.specs.Patterns.{choice, group, interleave}
use Rattle.rng_cost.specs.Least.{least}
use Rattle.rng_cost.specs.Leaves.{leaves, LeavesCost}

-- ---- those of the cheaper side

side_costs : (costs : List ℕ) (xs ys : List Pattern) (m n : ℕ) (b : Bool) → nat_le m n ≡ b
    → (m ≤ n → sum_by (least costs) xs ≡ m) → (n ≤ m → sum_by (least costs) ys ≡ n)
    → sum_by (least costs) (if b then xs else ys) ≡ min m n
side_costs costs xs ys m n true is first second = let less = leb-true m n is in omega (arith, first less, less)
side_costs costs xs ys m n false is first second = let more = leb-false m n is in omega (arith, second (omega (arith, more)), more)

-- together leaves cost what the pattern does
pub leaves_cost : LeavesCost
leaves_cost costs not_allowed small = absurd (omega (arith, small))
leaves_cost costs empty small = refl
leaves_cost costs any_text small = refl
leaves_cost costs (typed type excepts) small = refl
leaves_cost costs (literal type text) small = refl
leaves_cost costs (listed p) small = refl
leaves_cost costs (attribute class p) small = refl
leaves_cost costs (ref i) small = omega (arith, sum_by-cons (least costs) (ref i) [])
leaves_cost costs (one_or_more p) small = leaves_cost costs p small
leaves_cost costs (choice p q) small =
    side_costs costs (leaves costs p) (leaves costs q) (least costs p) (least costs q) (nat_le (least costs p) (least costs q)) refl
    (λ less. leaves_cost costs p (omega (arith, less, small))) (λ less. leaves_cost costs q (omega (arith, less, small)))
leaves_cost costs (group p q) small =
    omega (
      arith,
      sum_by-append (least costs) (leaves costs p) (leaves costs q),
      leaves_cost costs p (omega (arith, small)),
      leaves_cost costs q (omega (arith, small)),
      small,
    )
leaves_cost costs (interleave p q) small =
    omega (
      arith,
      sum_by-append (least costs) (leaves costs p) (leaves costs q),
      leaves_cost costs p (omega (arith, small)),
      leaves_cost costs q (omega (arith, small)),
      small,
    )
