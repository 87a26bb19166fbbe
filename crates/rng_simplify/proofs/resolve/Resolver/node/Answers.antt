use Rattle.rng_simplify.proofs.Taking.{links_within, inner_within, node_nowhere, node_taken}
use Rattle.rng_simplify.proofs.resolve.Resolver.node.Goals as goal

pub standing-requires : goal.standing-requires
standing-requires c = record {
  known = links_within c.args.whole.now.nodes.items c.requires.within c.requires.behind;
  within = inner_within c.args.whole.now.nodes.items c.index-in_default.result.now c.requires.formed c.requires.behind c.requires.within (rw c.i.view_is at c.index-in_default.ensures);
}

pub returns-in-Nowhere : goal.returns-in-Nowhere
returns-in-Nowhere c = node_nowhere c.args.whole.now.nodes.items c.index.result.now c.requires.formed c.requires.behind c.requires.within (rw c.i.view_is at c.index.ensures) c.in-Nowhere.is

pub returns-in_default : goal.returns-in_default
returns-in_default c = node_taken c.args.whole.now.nodes.items _ c.index-in_default.result.now c.index.result.now c.requires.formed c.requires.behind c.requires.within (rw c.i.view_is at c.index-in_default.ensures) (rw c.i.view_is at c.index.ensures) c.in_default.not-Nowhere c.standing.result c.standing.ensures
