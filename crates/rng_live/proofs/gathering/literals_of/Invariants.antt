use Rattle.std.proofs.Common.{◌≡◌, [], take}
use Rattle.std.specs.List.{fold}
use Rattle.rng_core.specs.Meaning.{definition_of}
use Rattle.rng_live.specs.Gathered.{with_literals}
use Rattle.rng_live.proofs.gathering.literals_of.Given as goal

abbrev pub invariant-loop-def : goal.invariant-loop-def
invariant-loop-def l = l.found.items ≡ fold (λ found def. with_literals (definition_of def).content found) [] (take l.def-index l.defs)
