use Rattle.deriv_states.proofs.Places.{patterns_single, outers_single, states_single}
use Rattle.deriv_states.proofs.states.States.no_doubles.Goals as goal

pub returns-clause-patterns : goal.returns-clause-patterns
returns-clause-patterns c =
    patterns_single c.self.inside.nodes c.self.inside.arounds.keys c.self.inside.rows.keys c.self.inside.contents.items c.self.invariant
    c.no_doubles.ensures c.args.self.now c.self.view_is

pub returns-clause-outers : goal.returns-clause-outers
returns-clause-outers c =
    outers_single c.self.inside.nodes c.self.inside.arounds.keys c.self.inside.rows.keys c.self.inside.contents.items c.self.invariant
    c.no_doubles.ensures c.args.self.now c.self.view_is

pub returns-clause-states : goal.returns-clause-states
returns-clause-states c =
    states_single c.self.inside.nodes c.self.inside.arounds.keys c.self.inside.rows.keys c.self.inside.contents.items c.self.invariant
    c.no_doubles.ensures c.args.self.now c.self.view_is
