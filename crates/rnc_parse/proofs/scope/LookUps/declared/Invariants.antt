use Rattle.std.proofs.Common.{take}
use Rattle.rnc_parse.specs.LookingUp.{HoldsSoFar}
use Rattle.rnc_parse.proofs.scope.LookUps.declared.Given as goal

abbrev pub invariant-loop-declaration : goal.invariant-loop-declaration
invariant-loop-declaration l = HoldsSoFar l.look_ups (take l.declaration-index l.declarations)
