use Rattle.deriv_nodes.proofs.IfOk.{if_ok}
use Rattle.deriv_states.proofs.Places.{around_kept, around_later, around_is, around_fits}
use Rattle.deriv_states.proofs.states.States.put_around.Goals as goal

pub invariant_of-self : goal.invariant_of-self
invariant_of-self c =
    let inside = c.self.inside in
    around_kept inside.nodes inside.arounds.keys c.keep_around.new.set.keys inside.rows.keys inside.contents.items c.args.around c.self.invariant c.keep_around.ensures.kept
    (around_fits inside.nodes inside.arounds.keys inside.rows.keys inside.contents.items c.args.self.now c.self.view_is c.args.around c.requires) c.keep_around.ensures.once

pub returns-clause-later : goal.returns-clause-later
returns-clause-later c =
    let inside = c.self.inside in
    around_later inside.nodes inside.arounds.keys c.keep_around.new.set.keys inside.rows.keys inside.contents.items c.args.around c.self.invariant c.keep_around.ensures.kept
    c.args.self.now c.self.view_is

pub returns-clause-made : goal.returns-clause-made
returns-clause-made c =
    let inside = c.self.inside in
    if_ok c.keep_around.result c.keep_around.ensures.there (λ r there.
    around_is inside.nodes inside.arounds.keys c.keep_around.new.set.keys inside.rows.keys inside.contents.items c.args.around c.self.invariant c.keep_around.ensures.kept
    c.args.self.now r c.self.view_is
    (around_fits inside.nodes inside.arounds.keys inside.rows.keys inside.contents.items c.args.self.now c.self.view_is c.args.around c.requires) there)
