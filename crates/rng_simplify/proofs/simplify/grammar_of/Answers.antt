use Rattle.std.proofs.lemmas.Result.{err_from_is_err_and}
use Rattle.rng_simplify.proofs.Grammars.{so_refused}
use Rattle.rng_simplify.proofs.Stages.{serves, texts_of_nodes, without_forms, of_schema, are_known, without_types, start_known, contents_known, beyond_limits, are_ready, gives}
use Rattle.rng_simplify.proofs.simplify.grammar_of.Goals as goal

pub returns-in_err-found : goal.returns-in_err-found
returns-in_err-found c =
    let p = err_from_is_err_and c.from_residual.result c.from_residual.ensures.1 in
    rw (p.1, p.2) (so_refused _ _ c.in_err-found.field-0.0 c.in_err-found.ensures)

pub returns-in_err-check_classes : goal.returns-in_err-check_classes
returns-in_err-check_classes c =
    let p = err_from_is_err_and c.from_residual-in_err-check_classes.result c.from_residual-in_err-check_classes.ensures.1 in
    rw (p.1, p.2) (so_refused _ _ c.in_err-check_classes.field-0.0 c.in_err-check_classes.ensures)

pub returns-in_err-order : goal.returns-in_err-order
returns-in_err-order c =
    let p = err_from_is_err_and c.from_residual-in_err-order.result c.from_residual-in_err-order.ensures.1 in
    rw (p.1, p.2) (so_refused _ _ c.in_err-order.field-0.0 c.in_err-order.ensures)

pub forms_of-requires : goal.forms_of-requires
forms_of-requires c =
    serves c.args.whole.now c.in_ok-found.found c.in_ok-order.order.items c.as_slice-ordered.result.now c.as_slice-nodes.result.now c.as_slice-nodes.ensures.value c.as_slice-ordered.ensures.value c.requires.formed c.requires.texts c.in_ok-found.ensures c.in_ok-check_classes.ensures c.in_ok-order.ensures

pub returns-in_err-forms : goal.returns-in_err-forms
returns-in_err-forms c =
    let p = err_from_is_err_and c.from_residual-in_err-forms.result c.from_residual-in_err-forms.ensures.1 in
    rw (p.1, p.2) (without_forms c.args.whole.now c.in_ok-found.found c.in_ok-order.order.items c.as_slice-ordered.result.now c.as_slice-nodes.result.now c.as_slice-nodes.ensures.value c.as_slice-ordered.ensures.value c.requires.formed c.requires.texts c.in_ok-found.ensures c.in_ok-check_classes.ensures c.in_ok-order.ensures c.in_err-forms.field-0.0 c.in_err-forms.ensures)

pub types_of-requires-clause-texts : goal.types_of-requires-clause-texts
types_of-requires-clause-texts c =
    texts_of_nodes c.args.whole.now c.in_ok-found.found c.in_ok-order.order.items c.as_slice-ordered.result.now c.as_slice-nodes.result.now c.as_slice-nodes.ensures.value c.as_slice-ordered.ensures.value c.requires.formed c.requires.texts c.in_ok-found.ensures c.in_ok-check_classes.ensures c.in_ok-order.ensures

pub types_of-requires-clause-of_schema : goal.types_of-requires-clause-of_schema
types_of-requires-clause-of_schema c =
    of_schema c.args.whole.now c.in_ok-found.found c.in_ok-order.order.items c.as_slice-ordered.result.now c.as_slice-nodes.result.now c.as_slice-nodes.ensures.value c.as_slice-ordered.ensures.value c.requires.formed c.requires.texts c.in_ok-found.ensures c.in_ok-check_classes.ensures c.in_ok-order.ensures c.in_ok-forms.forms c.in_ok-forms.ensures

pub types_of-requires-clause-known : goal.types_of-requires-clause-known
types_of-requires-clause-known c =
    are_known c.args.whole.now c.in_ok-found.found c.in_ok-order.order.items c.as_slice-ordered.result.now c.as_slice-nodes.result.now c.as_slice-nodes.ensures.value c.as_slice-ordered.ensures.value c.requires.formed c.requires.texts c.in_ok-found.ensures c.in_ok-check_classes.ensures c.in_ok-order.ensures c.in_ok-forms.forms c.in_ok-forms.ensures

pub returns-in_err-node_types : goal.returns-in_err-node_types
returns-in_err-node_types c =
    let p = err_from_is_err_and c.from_residual-in_err-node_types.result c.from_residual-in_err-node_types.ensures.1 in
    rw (p.1, p.2) (without_types c.args.whole.now c.in_ok-found.found c.in_ok-order.order.items c.as_slice-ordered.result.now c.as_slice-nodes.result.now c.as_slice-nodes.ensures.value c.as_slice-ordered.ensures.value c.requires.formed c.requires.texts c.in_ok-found.ensures c.in_ok-check_classes.ensures c.in_ok-order.ensures c.in_ok-forms.forms c.in_ok-forms.ensures c.in_err-node_types.field-0.0 c.in_err-node_types.ensures)

pub check_size-requires-clause-start : goal.check_size-requires-clause-start
check_size-requires-clause-start c =
    start_known c.args.whole.now c.in_ok-found.found c.in_ok-order.order.items c.as_slice-ordered.result.now c.as_slice-nodes.result.now c.as_slice-nodes.ensures.value c.as_slice-ordered.ensures.value c.requires.formed c.requires.texts c.in_ok-found.ensures c.in_ok-check_classes.ensures c.in_ok-order.ensures c.in_ok-forms.forms c.in_ok-forms.ensures

pub check_size-requires-clause-contents : goal.check_size-requires-clause-contents
check_size-requires-clause-contents c =
    contents_known c.args.whole.now c.in_ok-found.found c.in_ok-order.order.items c.as_slice-ordered.result.now c.as_slice-nodes.result.now c.as_slice-nodes.ensures.value c.as_slice-ordered.ensures.value c.requires.formed c.requires.texts c.in_ok-found.ensures c.in_ok-check_classes.ensures c.in_ok-order.ensures c.in_ok-forms.forms c.in_ok-forms.ensures c.as_slice-elements.result.now c.as_slice-elements.ensures.value

pub returns-in_err-check_size : goal.returns-in_err-check_size
returns-in_err-check_size c =
    let p = err_from_is_err_and c.from_residual-in_err-check_size.result c.from_residual-in_err-check_size.ensures.1 in
    rw (p.1, p.2) (beyond_limits c.args.whole.now c.in_ok-found.found c.in_ok-order.order.items c.as_slice-ordered.result.now c.as_slice-nodes.result.now c.as_slice-nodes.ensures.value c.as_slice-ordered.ensures.value c.requires.formed c.requires.texts c.in_ok-found.ensures c.in_ok-check_classes.ensures c.in_ok-order.ensures c.in_ok-forms.forms c.in_ok-forms.ensures c.in_ok-node_types.node_types.items c.as_slice-types.result.now c.as_slice-types.ensures.value c.in_ok-node_types.ensures c.as_slice-elements.result.now c.as_slice-elements.ensures.value c.in_err-check_size.field-0.0 c.in_err-check_size.ensures)

pub check_copies-requires-clause-start : goal.check_copies-requires-clause-start
check_copies-requires-clause-start c =
    start_known c.args.whole.now c.in_ok-found.found c.in_ok-order.order.items c.as_slice-ordered.result.now c.as_slice-nodes.result.now c.as_slice-nodes.ensures.value c.as_slice-ordered.ensures.value c.requires.formed c.requires.texts c.in_ok-found.ensures c.in_ok-check_classes.ensures c.in_ok-order.ensures c.in_ok-forms.forms c.in_ok-forms.ensures

pub check_copies-requires-clause-contents : goal.check_copies-requires-clause-contents
check_copies-requires-clause-contents c =
    contents_known c.args.whole.now c.in_ok-found.found c.in_ok-order.order.items c.as_slice-ordered.result.now c.as_slice-nodes.result.now c.as_slice-nodes.ensures.value c.as_slice-ordered.ensures.value c.requires.formed c.requires.texts c.in_ok-found.ensures c.in_ok-check_classes.ensures c.in_ok-order.ensures c.in_ok-forms.forms c.in_ok-forms.ensures c.as_slice-elements.result.now c.as_slice-elements.ensures.value

pub grammar-requires-clause-ready : goal.grammar-requires-clause-ready
grammar-requires-clause-ready c =
    are_ready c.args.whole.now c.in_ok-found.found c.in_ok-order.order.items c.as_slice-ordered.result.now c.as_slice-nodes.result.now c.as_slice-nodes.ensures.value c.as_slice-ordered.ensures.value c.requires.formed c.requires.texts c.in_ok-found.ensures c.in_ok-check_classes.ensures c.in_ok-order.ensures c.in_ok-forms.forms c.in_ok-forms.ensures c.in_ok-node_types.node_types.items c.as_slice-types.result.now c.as_slice-types.ensures.value c.in_ok-node_types.ensures c.as_slice-elements.result.now c.as_slice-elements.ensures.value c.in_ok-check_size.ensures

pub grammar-requires-clause-start : goal.grammar-requires-clause-start
grammar-requires-clause-start c =
    start_known c.args.whole.now c.in_ok-found.found c.in_ok-order.order.items c.as_slice-ordered.result.now c.as_slice-nodes.result.now c.as_slice-nodes.ensures.value c.as_slice-ordered.ensures.value c.requires.formed c.requires.texts c.in_ok-found.ensures c.in_ok-check_classes.ensures c.in_ok-order.ensures c.in_ok-forms.forms c.in_ok-forms.ensures

pub grammar-requires-clause-elements : goal.grammar-requires-clause-elements
grammar-requires-clause-elements c =
    contents_known c.args.whole.now c.in_ok-found.found c.in_ok-order.order.items c.as_slice-ordered.result.now c.as_slice-nodes.result.now c.as_slice-nodes.ensures.value c.as_slice-ordered.ensures.value c.requires.formed c.requires.texts c.in_ok-found.ensures c.in_ok-check_classes.ensures c.in_ok-order.ensures c.in_ok-forms.forms c.in_ok-forms.ensures c.as_slice-elements.result.now c.as_slice-elements.ensures.value

pub returns : goal.returns
returns c =
    gives c.args.whole.now c.in_ok-found.found c.in_ok-order.order.items c.as_slice-ordered.result.now c.as_slice-nodes.result.now c.as_slice-nodes.ensures.value c.as_slice-ordered.ensures.value c.requires.formed c.requires.texts c.in_ok-found.ensures c.in_ok-check_classes.ensures c.in_ok-order.ensures c.in_ok-forms.forms c.in_ok-forms.ensures c.in_ok-node_types.node_types.items c.as_slice-types.result.now c.as_slice-types.ensures.value c.in_ok-node_types.ensures c.as_slice-elements.result.now c.as_slice-elements.ensures.value c.in_ok-check_size.ensures c.grammar.result c.grammar.ensures
