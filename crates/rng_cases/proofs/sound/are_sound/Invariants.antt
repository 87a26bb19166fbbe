use Rattle.std.proofs.Common.{take}
use Rattle.std.specs.List.{All}
use Rattle.rng_core.specs.Soundness.{IsSoundDefinition}
use Rattle.rng_core.specs.Meaning.{definition_of}
use Rattle.rng_cases.proofs.sound.are_sound.Given as goal

abbrev pub invariant-loop-def : goal.invariant-loop-def
invariant-loop-def l = All (λ def. IsSoundDefinition l.count (definition_of def)) (take l.def-index l.defs)
