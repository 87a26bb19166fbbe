use Rattle.std.proofs.Common.{◌≡◌, ℕ, ◌+◌, List, length, ap, arith}
use Rattle.std.specs.List.{sum_by}
use Rattle.std.specs.Str.{chars}
use Rattle.rng_types.specs.Spaces.{words}
use Rattle.rng_types.proofs.length.spaced_count.Goals as goal

pub returns : goal.returns
returns c =
    let f : List ℕ → ℕ = λ word. length (chars word) + 1 in
    let none : sum_by f (words c.loop-word.left.now) ≡ 0 = ap (sum_by f) c.in_default.ensures.none in
    omega (arith, none, c.loop-word.invariant.counted, c.loop-word.invariant.bounded)
