-- the elements so far are numbered
use Rattle.std.proofs.Common.{map}
use Rattle.rng_simplify.specs.Cells.{cell_of}
use Rattle.rng_simplify.specs.Findings.{AreNumbered, numbering_of}
use Rattle.rng_simplify.proofs.resolve.numbered.Given as goal

abbrev pub invariant-loop-i : goal.invariant-loop-i
invariant-loop-i l = AreNumbered (map cell_of l.nodes) l.scopes l.i l.initial.links.items (numbering_of l.links l.elements)
