use Rattle.deriv_states.proofs.Places.{nodes_kept, nodes_later}
use Rattle.deriv_states.proofs.states.States.opens.Goals as goal

pub invariant_of-self : goal.invariant_of-self
invariant_of-self c =
    let inside = c.self.inside in
    nodes_kept inside.nodes c.opens.new.self inside.arounds.keys inside.rows.keys inside.contents.items c.self.invariant c.opens.ensures.later

pub returns-clause-later : goal.returns-clause-later
returns-clause-later c =
    let inside = c.self.inside in
    nodes_later inside.nodes c.opens.new.self inside.arounds.keys inside.rows.keys inside.contents.items c.args.self.now c.self.view_is
    c.self.invariant c.opens.ensures.later
