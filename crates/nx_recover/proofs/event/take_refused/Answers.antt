use Rattle.nx_recover.proofs.Tops.{begins}
use Rattle.nx_recover.proofs.event.take_refused.Goals as goal

pub returns-clause-gives : goal.returns-clause-gives
returns-clause-gives g c = begins g.met.M.Matcher.laws c.enter_refused.ensures.later c.args.levels.now c.args.change.now c.push.new.change _ c.requires _ c.in_ok-begun.begun (rw c.here.ensures at c.in_ok-begun.ensures.gives) c.in_ok-flaw.ensures
