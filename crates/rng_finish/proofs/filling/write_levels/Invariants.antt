-- where the levels that are left are filled, all are
use Rattle.std.proofs.Common.{List, length}
use Rattle.rng_core.specs.Meaning.{pattern_of}
use Rattle.rng_fill.specs.Contents.{definitions_in, costs_in}
use Rattle.rng_fill.specs.Heads.{AreHeads}
use Rattle.rng_fill.specs.declared.moves.Move.{Move}
use Rattle.rng_finish.specs.Filled.{FillsLevels}
use Rattle.rng_finish.specs.Fit.{FitLevels}
use Rattle.rng_finish.proofs.filling.write_levels.Given as goal

abbrev pub invariant-loop-level : goal.invariant-loop-level
invariant-loop-level l = record {
  rest : (new : List Move) → FillsLevels (definitions_in l.contents) (costs_in l.contents) (pattern_of l.document) l.inside l.moves new
      → FillsLevels (definitions_in l.contents) (costs_in l.contents) (pattern_of l.document) l.levels l.initial.moves new;
  fits : FitLevels (definitions_in l.contents) (costs_in l.contents) l.inside;
  heads : AreHeads (definitions_in l.contents) (costs_in l.contents) l.heads;
}

abbrev pub decreases-loop-level : goal.decreases-loop-level
decreases-loop-level l = length l.inside
