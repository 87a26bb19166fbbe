use Rattle.deriv_nodes.proofs.Single.{singles}
use Rattle.deriv_nodes.proofs.nodes.Nodes.no_doubles.Goals as goal

pub returns : goal.returns
returns c = singles c.self.inside.leaves.keys c.self.inside.shapes.keys c.self.invariant.table c.args.self.now c.self.view_is
