use Rattle.rng_simplify.proofs.Typing.{node_parts}
use Rattle.rng_simplify.proofs.copies.parts_taken_at.Goals as goal

pub parts_taken-requires-clause-known : goal.parts_taken-requires-clause-known
parts_taken-requires-clause-known c = node_parts _ _ _ _ _ (rw c.i.view_is at c.if-i-nodes.true) (rw c.i.view_is at c.index-nodes-i.is) c.requires.known
