use Rattle.std.proofs.Common.{subst, ◌++◌, ◌∷◌, [], None}
use Rattle.rnc_parse.specs.declared.declaration.Declaration.TheVariants as declaration
use Rattle.rnc_parse.specs.LookingUp.{Declares}
use Rattle.rnc_parse.proofs.Bound.{declares_both, fails_at_default}
use Rattle.rnc_parse.proofs.scope.LookUps.bind_default.Goals as goal

pub returns-in-Ok : goal.returns-in-Ok
returns-in-Ok c done h =
    declares_both done c.args.prefix.now c.args.ns.now c.bind.new.self c.bind.result
    (c.bind.ensures (done ++ declaration.Default None c.args.ns.now ∷ [])
    (subst (λ (r : _). Declares (done ++ declaration.Default None c.args.ns.now ∷ []) c.set_default.new.self r) c.in-Ok.is (c.set_default.ensures done h)))

pub returns-in-Err : goal.returns-in-Err
returns-in-Err c done h =
    fails_at_default done c.args.prefix.now c.args.ns.now c.set_default.new.self c.in-Err.clash
    (subst (λ (r : _). Declares (done ++ declaration.Default None c.args.ns.now ∷ []) c.set_default.new.self r) c.in-Err.is (c.set_default.ensures done h))
