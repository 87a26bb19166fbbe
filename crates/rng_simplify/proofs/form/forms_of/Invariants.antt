use Rattle.std.proofs.Common.{map}
use Rattle.rng_simplify.specs.Cells.{cell_of}
use Rattle.rng_simplify.specs.NodeForms.{AreFormed}
use Rattle.rng_simplify.proofs.form.forms_of.Given as goal

abbrev pub invariant-loop-i : goal.invariant-loop-i
invariant-loop-i l = AreFormed (map cell_of l.nodes) l.found l.order l.i-index l.forms
