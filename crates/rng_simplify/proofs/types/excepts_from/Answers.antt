use Rattle.std.proofs.Common.{ℕ, map, subst, Err}
use Rattle.std.proofs.lemmas.List.{get_or_read}
use Rattle.std.proofs.lemmas.Result.{err_from_is_err_and}
use Rattle.rng_simplify.specs.Cells.{cell_of}
use Rattle.rng_simplify.specs.NodeTypes.{TakesBehind, value_of}
use Rattle.rng_simplify.proofs.Typing.{none_taken, item_is_value, one_more_taken, value_refused}
use Rattle.rng_simplify.proofs.types.excepts_from.Goals as goal

pub loop-value-init : goal.loop-value-init
loop-value-init c = none_taken _ _ _ _ c.new-excepts.ensures

pub add_value-requires-clause-value : goal.add_value-requires-clause-value
add_value-requires-clause-value c = rw (get_or_read c.args.values.now c.loop-value.value-index c.value-item.result c.loop-value-test.true c.value-item.is 0) (item_is_value _ c.args.name.now c.args.datatype.now _ _ c.loop-value-test.true c.requires.values)

pub returns-in_err-add_value : goal.returns-in_err-add_value
returns-in_err-add_value c =
    let p = err_from_is_err_and c.from_residual.result c.from_residual.ensures.1 in
    let P : ℕ → Type 0 = λ v. TakesBehind c.args.name.now c.args.datatype.now (value_of (map cell_of c.args.nodes.now) v) c.loop-value.excepts c.add_value.new.excepts (Err c.in_err-add_value.field-0.0) in
    rw (p.1, p.2) (value_refused (map cell_of c.args.nodes.now) c.args.name.now c.args.datatype.now c.args.values.now c.loop-value.value-index c.loop-value-test.true c.loop-value.excepts c.add_value.new.excepts c.in_err-add_value.field-0.0 (subst P (get_or_read c.args.values.now c.loop-value.value-index c.value-item.result c.loop-value-test.true c.value-item.is 0) c.in_err-add_value.ensures))

pub loop-value-preserved : goal.loop-value-preserved
loop-value-preserved c = one_more_taken _ _ _ _ _ c.loop-value-test.true _ _ c.loop-value.invariant (rw (get_or_read c.args.values.now c.loop-value.value-index c.value-item.result c.loop-value-test.true c.value-item.is 0) at c.in_ok-add_value.ensures)
