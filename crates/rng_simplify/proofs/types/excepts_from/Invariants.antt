use Rattle.std.proofs.Common.{map, take}
use Rattle.rng_simplify.specs.Cells.{cell_of}
use Rattle.rng_simplify.specs.NodeTypes.{AreTakenFrom}
use Rattle.rng_simplify.proofs.types.excepts_from.Given as goal

abbrev pub invariant-loop-value : goal.invariant-loop-value
invariant-loop-value l = AreTakenFrom (map cell_of l.nodes) l.name l.datatype (take l.value-index l.values) l.excepts
