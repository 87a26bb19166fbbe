use Rattle.nx_recover.specs.Machine.{state_by, means_by, rules_by}
use Rattle.nx_complete.proofs.Placing.{at_first, later_behind, offered_behind}
use Rattle.nx_complete.proofs.place.offers_from_start.Goals as goal

pub offers-requires-clause-behind : goal.offers-requires-clause-behind
offers-requires-clause-behind g c =
    let m = g.M.Matcher in
    let o = c.start.new.self.matcher in
    at_first (state_by m.is_state o) (means_by m.means o) (rules_by m.language o) c.args.text.now c.in_ok-first.first c.len-len.ensures.utf8 c.in_ok-first.ensures.state c.in_ok-first.ensures.first

pub returns-clause-later : goal.returns-clause-later
returns-clause-later g c = later_behind g.met.M.Matcher.laws c.args.machine.now.matcher c.start.new.self.matcher c.offers.new.machine.matcher c.in_ok-first.ensures.later c.offers.ensures.later

pub returns-clause-offers : goal.returns-clause-offers
returns-clause-offers g c = offered_behind g.met.M.Matcher.laws c.args.machine.now.matcher c.start.new.self.matcher c.in_ok-first.ensures.later c.args.text.now c.args.at c.offers.result c.offers.ensures.offers
