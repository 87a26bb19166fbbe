use Rattle.std.proofs.Common.{refl, length, map}
use Rattle.std.proofs.lemmas.Option.{slice_get_read}
use Rattle.std.proofs.lemmas.Result.{err_from_is_err_and}
use Rattle.rng_simplify.specs.Cells.{cell_of}
use Rattle.rng_simplify.proofs.Typing.{one_more_typed, one_refused}
use Rattle.rng_simplify.proofs.types.types_of.Goals as goal

pub set_type-requires-clause-known : goal.set_type-requires-clause-known
set_type-requires-clause-known c = λ cell at j within. c.requires.known.each_part _ _ cell (slice_get_read c.args.order.now (length c.args.order.now) c.loop-i.i-index c.i-item.result refl c.loop-i-test.true c.i-item.is) at j within

pub returns-in_err-set_type : goal.returns-in_err-set_type
returns-in_err-set_type c =
    let p = err_from_is_err_and c.from_residual-in_err-set_type.result c.from_residual-in_err-set_type.ensures.1 in
    rw (p.1, p.2) (one_refused (map cell_of c.args.nodes.now) c.args.order.now c.args.forms.now _ _ c.loop-i.types.items c.set_type.new.types.items c.in_err-set_type.field-0.0 (slice_get_read c.args.order.now (length c.args.order.now) c.loop-i.i-index c.i-item.result refl c.loop-i-test.true c.i-item.is) c.loop-i.invariant c.in_err-set_type.ensures)

pub loop-i-preserved : goal.loop-i-preserved
loop-i-preserved c = one_more_typed _ _ _ _ _ _ _ (slice_get_read c.args.order.now (length c.args.order.now) c.loop-i.i-index c.i-item.result refl c.loop-i-test.true c.i-item.is) c.loop-i.invariant c.in_ok-set_type.ensures
