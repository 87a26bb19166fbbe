use Rattle.rng_simplify.proofs.Good.{nowhere_good, node_judged}
use Rattle.rng_simplify.proofs.class.check_at.Goals as goal

pub returns-in-Nowhere : goal.returns-in-Nowhere
returns-in-Nowhere c = nowhere_good c.args.whole.now.nodes.items c.args.whole.now.root c.args.found.now c.args.i c.index.result.now c.requires.resolved c.requires.within (rw c.i.view_is at c.index.ensures) c.in-Nowhere.is

pub returns-in_default : goal.returns-in_default
returns-in_default c = node_judged c.args.whole.now.nodes.items c.args.whole.now.root c.args.found.now c.args.i c.index.result.now c.index-in_default.result.now c.requires.resolved c.requires.within (rw c.i.view_is at c.index.ensures) c.in_default.not-Nowhere (rw c.i.view_is at c.index-in_default.ensures) c.check_node.result c.check_node.ensures
