use Rattle.nx_recover.proofs.Tops.{last_is_open, leaves_last, leaves_none}
use Rattle.nx_recover.proofs.event.take_leave.Goals as goal

pub returns-in_default-clause-gives : goal.returns-in_default-clause-gives
returns-in_default-clause-gives g c =
    let a = c.args.matcher.now in
    leaves_none (g.M.Matcher.language a) (g.M.Matcher.is_state a) (g.M.Matcher.means a) c.args.levels.now c.args.change.now c.requires c.in_default.ensures

pub end_element-requires-clause-element : goal.end_element-requires-clause-element
end_element-requires-clause-element g c =
    last_is_open (g.M.Matcher.is_state c.args.matcher.now) c.args.levels.now c.args.change.now c.in-Some.element.now c.requires c.in-Some.ensures

pub returns-clause-gives : goal.returns-clause-gives
returns-clause-gives g c =
    leaves_last g.met.M.Matcher.laws c.end_element.ensures.later c.args.levels.now c.args.change.now c.take_off.new.change c.in-Some.element.now c.requires c.in-Some.ensures c.take_off.ensures
    c.in_ok-ended.ended (rw c.here.ensures at c.in_ok-ended.ensures.gives)
