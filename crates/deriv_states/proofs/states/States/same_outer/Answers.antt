use Rattle.deriv_states.proofs.Places.{outers_answer}
use Rattle.deriv_states.proofs.states.States.same_outer.Goals as goal

pub returns : goal.returns
returns c =
    outers_answer c.self.inside.nodes c.self.inside.arounds.keys c.self.inside.rows.keys c.self.inside.contents.items c.self.invariant c.no_doubles.ensures
    c.args.self.now c.args.o c.args.u c.self.view_is c.requires.o c.requires.u
