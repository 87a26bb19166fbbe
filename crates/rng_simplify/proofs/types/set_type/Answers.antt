use Rattle.std.proofs.Common.{refl}
use Rattle.std.proofs.lemmas.Result.{err_from_is_err_and}
use Rattle.rng_simplify.proofs.Typing.{node_text, node_parts, type_is_set, type_is_refused, no_type_set}
use Rattle.rng_simplify.proofs.types.set_type.Goals as goal

pub type_of-requires-clause-text : goal.type_of-requires-clause-text
type_of-requires-clause-text c = node_text _ _ _ (rw c.i.view_is at c.if-i-nodes.true) (rw c.i.view_is at c.index-nodes-i.is) c.requires.texts

pub type_of-requires-clause-known : goal.type_of-requires-clause-known
type_of-requires-clause-known c = node_parts _ _ _ _ _ (rw c.i.view_is at c.if-i-nodes.true) (rw c.i.view_is at c.index-nodes-i.is) c.requires.known

pub returns-in_err-known : goal.returns-in_err-known
returns-in_err-known c =
    let p = err_from_is_err_and c.from_residual.result c.from_residual.ensures.1 in
    rw (p.1, p.2) (type_is_refused c.args.nodes.now c.args.forms.now c.args.i c.index-nodes-i.result (rw c.i.view_is at c.if-i-nodes.true) (rw c.i.view_is at c.index-nodes-i.is) c.args.types.now.items c.args.types.now.items c.in_err-known.field-0.0 c.in_err-known.ensures)

pub returns-in_ok-known : goal.returns-in_ok-known
returns-in_ok-known c = rw c.i.view_is (type_is_set _ _ _ _ (rw c.i.view_is at c.if-i-nodes.true) (rw c.i.view_is at c.index-nodes-i.is) _ _ _ c.requires.all refl c.in_ok-known.ensures)

pub returns-else-i-nodes : goal.returns-else-i-nodes
returns-else-i-nodes c = no_type_set _ _ _ _ (rw c.i.view_is at c.if-i-nodes.false)
