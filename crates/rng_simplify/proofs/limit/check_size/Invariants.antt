use Rattle.std.proofs.Common.{ℕ, List, map, take}
use Rattle.rng_simplify.specs.Cells.{cell_of}
use Rattle.rng_simplify.specs.Forms.{Value}
use Rattle.rng_simplify.proofs.Limiting.{AreCounted}
use Rattle.rng_simplify.proofs.limit.check_size.Given as goal

abbrev pub invariant-loop-element : goal.invariant-loop-element
invariant-loop-element l = (taken : ℕ → List Value) → AreCounted (map cell_of l.nodes) taken l.forms l.fn.root (take l.element-index l.elements) l.count
