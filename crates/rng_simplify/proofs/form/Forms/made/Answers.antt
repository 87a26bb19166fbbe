use Rattle.rng_simplify.proofs.Forming.{linked_so, leads_of_node, leads_of_combination, leads_known, node_made, combination_made}
use Rattle.rng_simplify.proofs.form.Forms.made.Goals as goal

pub node-requires-clause-linked : goal.node-requires-clause-linked
node-requires-clause-linked c = linked_so _ c.args.found.now _ _ _ (rw c.i.view_is at c.if-i-nodes.true) c.requires.all_links (rw c.i.view_is at c.index-nodes-i.is) (rw c.i.view_is at c.index.ensures) c.requires.linked

pub node-requires-clause-known : goal.node-requires-clause-known
node-requires-clause-known c = leads_known _ _ _ _ (leads_of_node _ c.args.found.now _ _ _ (rw c.i.view_is at c.if-i-nodes.true) c.requires.all_links (rw c.i.view_is at c.index-nodes-i.is) (rw c.i.view_is at c.index.ensures)) c.requires.known

pub combined-requires : goal.combined-requires
combined-requires c = leads_known _ _ _ _ (leads_of_combination _ c.args.found.now _ _ (rw c.i.view_is at c.if-i-nodes.false) c.requires.within (rw c.i.view_is at c.index-else-i-nodes.ensures)) c.requires.known

pub returns-then-i-nodes-clause-made : goal.returns-then-i-nodes-clause-made
returns-then-i-nodes-clause-made c = node_made _ _ _ _ _ _ _ _ _ (rw c.i.view_is at c.if-i-nodes.true) c.requires.all_links (rw c.i.view_is at c.index-nodes-i.is) (rw c.i.view_is at c.index.ensures) (rw c.i.view_is at c.node.ensures.made)

pub returns-else-i-nodes-clause-made : goal.returns-else-i-nodes-clause-made
returns-else-i-nodes-clause-made c = combination_made _ _ _ _ _ _ _ _ (rw c.i.view_is at c.if-i-nodes.false) c.requires.within (rw c.i.view_is at c.index-else-i-nodes.ensures) c.combined.ensures.made
