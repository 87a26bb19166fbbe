use Rattle.std.proofs.Common.{length}
use Rattle.deriv_nodes.proofs.nodes.Nodes.+rest_at.Given as goal

abbrev pub decreases-rest_at : goal.decreases-rest_at
decreases-rest_at l = length l.opened.now
