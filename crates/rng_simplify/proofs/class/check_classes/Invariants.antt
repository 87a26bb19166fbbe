-- the nodes so far
use Rattle.std.proofs.Common.{map, ℕ, ◌<◌}
use Rattle.rng_simplify.specs.Cells.{cell_of}
use Rattle.rng_simplify.specs.GoodClasses.{IsGoodAt}
use Rattle.rng_simplify.proofs.class.check_classes.Given as goal

abbrev pub invariant-loop-i : goal.invariant-loop-i
invariant-loop-i l = (k : ℕ) → k < l.i → IsGoodAt (map cell_of l.whole.nodes.items) l.whole.root k
