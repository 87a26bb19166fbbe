use Rattle.std.proofs.Common.{sym, arith}
use Rattle.std.proofs.lemmas.Bool.{false≢true}
use Rattle.deriv_states.proofs.Places.{many_outers, read_outer, outer_parts}
use Rattle.deriv_states.proofs.states.States.around.Goals as goal

pub returns-clause-is : goal.returns-clause-is
returns-clause-is c =
    read_outer c.self.inside.nodes c.self.inside.arounds.keys c.self.inside.rows.keys c.self.inside.contents.items c.args.self.now c.self.view_is c.self.invariant
    c.args.o c.in-Some.around.now (sym c.in-Some.ensures.key)

pub returns-clause-parts : goal.returns-clause-parts
returns-clause-parts c =
    outer_parts c.self.inside.nodes c.self.inside.arounds.keys c.self.inside.rows.keys c.self.inside.contents.items c.args.self.now c.self.view_is c.self.invariant
    c.args.o c.in-Some.around.now (sym c.in-Some.ensures.key)

pub unreachable-requires : goal.unreachable-requires
unreachable-requires c =
    let there = many_outers c.self.inside.nodes c.self.inside.arounds.keys c.self.inside.rows.keys c.self.inside.contents.items c.args.self.now c.self.view_is in
    false≢true (c.in-None.ensures.found.1 (omega (arith, c.requires, there)))
