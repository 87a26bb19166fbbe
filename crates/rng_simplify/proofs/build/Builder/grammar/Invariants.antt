use Rattle.std.proofs.Common.{map, take}
use Rattle.rng_core.specs.Meaning.{definition_of}
use Rattle.rng_simplify.specs.Cells.{cell_of}
use Rattle.rng_simplify.specs.SpelledShapes.{AreDefinitions}
use Rattle.rng_simplify.proofs.build.Builder.grammar.Given as goal

abbrev pub invariant-loop-element : goal.invariant-loop-element
invariant-loop-element l = AreDefinitions (map cell_of l.self.nodes.now) l.self.types.now l.self.forms.now (take l.element-index l.elements) (map definition_of l.defs)
