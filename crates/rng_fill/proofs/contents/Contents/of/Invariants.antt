-- so far the leaves are those of the first contents
use Rattle.std.proofs.Common.{◌≡◌, map, take}
use Rattle.rng_core.specs.Meaning.{definition_of}
use Rattle.rng_cost.specs.Leaves.{leaves, patterns_of}
use Rattle.rng_fill.proofs.contents.Contents.of.Given as goal

abbrev pub invariant-loop-def : goal.invariant-loop-def
invariant-loop-def l = map patterns_of l.leaves ≡ map (λ d. leaves l.costs d.content) (map definition_of (take l.def-index l.defs))
