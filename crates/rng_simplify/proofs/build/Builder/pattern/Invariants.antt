use Rattle.std.proofs.Common.{map}
use Rattle.rng_simplify.specs.Cells.{cell_of}
use Rattle.rng_simplify.specs.SpelledShapes.{IsUnderWay, work}
use Rattle.rng_simplify.proofs.build.Builder.pattern.Given as goal

abbrev pub invariant-loop-task : goal.invariant-loop-task
invariant-loop-task l = IsUnderWay (map cell_of l.self.nodes.now) l.self.types.now l.self.forms.now.shapes l.fn.shape l.tasks.items l.built.items

abbrev pub decreases-loop-task : goal.decreases-loop-task
decreases-loop-task l = work l.self.forms.now.shapes l.tasks.items
