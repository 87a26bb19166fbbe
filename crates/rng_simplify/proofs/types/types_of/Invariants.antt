use Rattle.std.proofs.Common.{map}
use Rattle.rng_simplify.specs.Cells.{cell_of}
use Rattle.rng_simplify.specs.NodeTypes.{AreTypesBefore}
use Rattle.rng_simplify.proofs.types.types_of.Given as goal

abbrev pub invariant-loop-i : goal.invariant-loop-i
invariant-loop-i l = AreTypesBefore (map cell_of l.nodes) l.order l.i-index l.forms l.types.items
