use Rattle.nx_session.proofs.Tags.{leads_to_place}
use Rattle.nx_session.proofs.session.Session.move_along.Goals as goal

pub invariant_of-self : goal.invariant_of-self
invariant_of-self g c = record {
  well = c.self.invariant.well;
  place = leads_to_place c.self.inside.text c.args.way c.self.inside.caret c.in-Some.at c.len-len.ensures.utf8 (rw c.in-Some.is at c.in_ok-at.ensures);
}
