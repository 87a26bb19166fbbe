use Rattle.deriv_nodes.proofs.IfOk.{if_ok}
use Rattle.deriv_states.proofs.Places.{row_kept, row_later, row_is, row_fits}
use Rattle.deriv_states.proofs.states.States.put_row.Goals as goal

pub invariant_of-self : goal.invariant_of-self
invariant_of-self c =
    let inside = c.self.inside in
    row_kept inside.nodes inside.arounds.keys inside.rows.keys c.keep_row.new.set.keys inside.contents.items c.args.row c.self.invariant c.keep_row.ensures.kept
    (row_fits inside.nodes inside.arounds.keys inside.rows.keys inside.contents.items c.args.self.now c.self.view_is c.args.row c.requires) c.keep_row.ensures.once

pub returns-clause-later : goal.returns-clause-later
returns-clause-later c =
    let inside = c.self.inside in
    row_later inside.nodes inside.arounds.keys inside.rows.keys c.keep_row.new.set.keys inside.contents.items c.args.row c.self.invariant c.keep_row.ensures.kept
    c.args.self.now c.self.view_is

pub returns-clause-made : goal.returns-clause-made
returns-clause-made c =
    let inside = c.self.inside in
    if_ok c.keep_row.result c.keep_row.ensures.there (λ r there.
    row_is inside.nodes inside.arounds.keys inside.rows.keys c.keep_row.new.set.keys inside.contents.items c.args.row c.self.invariant c.keep_row.ensures.kept
    c.args.self.now r c.self.view_is
    (row_fits inside.nodes inside.arounds.keys inside.rows.keys inside.contents.items c.args.self.now c.self.view_is c.args.row c.requires) there)
