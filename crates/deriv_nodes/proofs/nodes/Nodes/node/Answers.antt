use Rattle.std.proofs.Common.{ap, sym, ◌∙◌, length, arith}
use Rattle.std.proofs.lemmas.Bool.{false≢true}
use Rattle.deriv_nodes.proofs.Reading.{as_many, read_at, read_below}
use Rattle.deriv_nodes.proofs.nodes.Nodes.node.Goals as goal

pub node_of-requires-clause-below : goal.node_of-requires-clause-below
node_of-requires-clause-below c =
    read_below c.self.inside.leaves.keys c.self.inside.shapes.keys c.args.p c.in-Some.shape.now c.self.invariant.table.ordered
    (sym c.in-Some.ensures.key)

pub unreachable-requires : goal.unreachable-requires
unreachable-requires c =
    false≢true (c.in-None.ensures.found.1
    (omega (arith, c.requires, ap length c.self.view_is, as_many c.self.inside.leaves.keys c.self.inside.shapes.keys)))

pub returns-clause-is : goal.returns-clause-is
returns-clause-is c =
    read_at c.self.inside.leaves.keys c.self.inside.shapes.keys c.args.self.now c.args.p c.in-Some.shape.now c.self.view_is
    c.self.invariant.table.ordered (sym c.in-Some.ensures.key)
    ∙ c.node_of.ensures.whole c.args.self.now
