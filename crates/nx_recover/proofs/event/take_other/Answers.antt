use Rattle.nx_recover.proofs.Tops.{turned, stayed}
use Rattle.nx_recover.proofs.event.take_other.Goals as goal

pub returns-in-Some-clause-gives : goal.returns-in-Some-clause-gives
returns-in-Some-clause-gives g c =
    turned g.met.M.Matcher.laws c.pass.ensures.later c.args.levels.now c.args.change.now c.requires.change _ c.in_ok-turn.turn c.in-Some.state c.in-Some.is (rw c.here.ensures at c.in_ok-turn.ensures.gives)

pub returns-in-None-clause-gives : goal.returns-in-None-clause-gives
returns-in-None-clause-gives g c =
    stayed g.met.M.Matcher.laws c.pass.ensures.later c.args.levels.now c.args.change.now c.requires.change _ c.in_ok-turn.turn c.in-None.is (rw c.here.ensures at c.in_ok-turn.ensures.gives)
