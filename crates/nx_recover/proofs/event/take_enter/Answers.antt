use Rattle.std.proofs.Common.{refl, ap, ◌∙◌}
use Rattle.nx_recover.specs.declared.levels.Open.TheVariants.{In}
use Rattle.nx_recover.specs.Later.{change_later}
use Rattle.nx_recover.specs.States.{changed}
use Rattle.nx_recover.proofs.Rows.{admits, refuses}
use Rattle.nx_recover.proofs.event.take_enter.Goals as goal

pub returns-in_ok-push-in-Some-clause-gives : goal.returns-in_ok-push-in-Some-clause-gives
returns-in_ok-push-in-Some-clause-gives g c =
    admits g.met.M.Matcher.laws c.enter_admitted.ensures.later c.args.levels.now c.args.change.now _ c.requires c.args.name.now c.in_ok-state.field-0 c.in-Some.state c.in-Some.is
    (rw c.here.ensures at c.in_ok-state.ensures.gives) refl refl (rw (c.inside.ensures ∙ ap (λ n. In n) c.in_ok-kept-in-Some.ensures) at c.in_ok-push-in-Some.ensures.items)

pub take_refused-requires : goal.take_refused-requires
take_refused-requires g c = change_later g.met.M.Matcher.laws c.enter_admitted.ensures.later c.args.levels.now c.args.change.now c.requires

pub returns-in-None-clause-gives : goal.returns-in-None-clause-gives
returns-in-None-clause-gives g c =
    refuses g.met.M.Matcher.laws c.enter_admitted.ensures.later (changed c.args.levels.now c.args.change.now) c.requires.states c.args.name.now c.in_ok-state.field-0 c.in-None.is
    (rw c.here.ensures at c.in_ok-state.ensures.gives).meaning _ _ c.args.levels.now _ c.take_refused.result c.take_refused.ensures.gives
