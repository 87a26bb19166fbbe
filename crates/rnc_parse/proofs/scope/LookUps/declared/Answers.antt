use Rattle.std.proofs.Common.{subst, ◌++◌, ◌∷◌, [], take, arith}
use Rattle.rnc_parse.specs.LookingUp.{Declares}
use Rattle.rnc_parse.proofs.Bound.{clash_stays, all_done, all_held}
use Rattle.rnc_parse.proofs.scope.LookUps.declared.Goals as goal

pub returns-in-Err : goal.returns-in-Err
returns-in-Err c =
    clash_stays c.args.declarations.now c.loop-declaration.declaration-index c.declaration-item.result c.declare.new.self c.in-Err.clash c.loop-declaration-test.true c.declaration-item.is
    (subst (λ (r : _). Declares (take c.loop-declaration.declaration-index c.args.declarations.now ++ c.declaration-item.result ∷ []) c.declare.new.self r) c.in-Err.is
    (c.declare.ensures (take c.loop-declaration.declaration-index c.args.declarations.now) c.loop-declaration.invariant))

pub returns : goal.returns
returns c =
    all_held c.loop-declaration.look_ups c.args.declarations.now
    (all_done c.args.declarations.now c.loop-declaration.declaration-index c.loop-declaration.look_ups (omega (arith, c.loop-declaration-test.false, c.loop-declaration.auto.declaration-index-end)) c.loop-declaration.invariant)
