use Rattle.std.proofs.Common.{sym, arith}
use Rattle.std.proofs.lemmas.Bool.{false≢true}
use Rattle.deriv_states.proofs.Places.{many_states, read_state, state_parts}
use Rattle.deriv_states.proofs.states.States.row.Goals as goal

pub returns-clause-is : goal.returns-clause-is
returns-clause-is c =
    read_state c.self.inside.nodes c.self.inside.arounds.keys c.self.inside.rows.keys c.self.inside.contents.items c.args.self.now c.self.view_is c.self.invariant
    c.args.s c.in-Some.row.now (sym c.in-Some.ensures.key)

pub returns-clause-parts : goal.returns-clause-parts
returns-clause-parts c =
    state_parts c.self.inside.nodes c.self.inside.arounds.keys c.self.inside.rows.keys c.self.inside.contents.items c.args.self.now c.self.view_is c.self.invariant
    c.args.s c.in-Some.row.now (sym c.in-Some.ensures.key)

pub unreachable-requires : goal.unreachable-requires
unreachable-requires c =
    let there = many_states c.self.inside.nodes c.self.inside.arounds.keys c.self.inside.rows.keys c.self.inside.contents.items c.args.self.now c.self.view_is in
    false≢true (c.in-None.ensures.found.1 (omega (arith, c.requires, there)))
