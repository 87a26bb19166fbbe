use Rattle.rng_simplify.specs.NodeWalks.{walk_state_of}
use Rattle.rng_simplify.proofs.WalkTurns.{nodes_ordered}
use Rattle.rng_simplify.proofs.order.order.Goals as goal

pub returns : goal.returns
returns c =
    nodes_ordered c.args.whole.now.nodes.items c.args.whole.now.root c.args.found.now (walk_state_of c.nodes.new.self) (walk_state_of c.combined.new.self) c.in_ok-nodes.ensures.2 c.in_ok-combined.ensures.0 c.in_ok-combined.ensures.1 c.in_ok-combined.ensures.2 c.in_ok-combined.ensures.3
