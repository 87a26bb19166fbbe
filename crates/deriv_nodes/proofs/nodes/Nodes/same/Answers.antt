use Rattle.deriv_nodes.proofs.Single.{same_answer}
use Rattle.deriv_nodes.proofs.nodes.Nodes.same.Goals as goal

pub returns : goal.returns
returns c =
    same_answer c.self.inside.leaves.keys c.self.inside.shapes.keys c.self.invariant.table c.args.self.now c.args.p c.args.q c.self.view_is
    c.requires.p c.requires.q
