use Rattle.std.proofs.Common.{refl, length}
use Rattle.std.proofs.lemmas.Option.{slice_get_read}
use Rattle.rng_simplify.proofs.Forming.{one_more_formed}
use Rattle.rng_simplify.proofs.form.forms_of.Goals as goal

pub place-requires-clause-known : goal.place-requires-clause-known
place-requires-clause-known c = λ j within. c.loop-i.invariant.known j (c.requires.behind _ _ j (slice_get_read c.args.order.now (length c.args.order.now) c.loop-i.i-index c.i-item.result refl c.loop-i-test.true c.i-item.is) within)

pub place-requires-clause-linked : goal.place-requires-clause-linked
place-requires-clause-linked c = λ d at. c.requires.linked _ _ d (slice_get_read c.args.order.now (length c.args.order.now) c.loop-i.i-index c.i-item.result refl c.loop-i-test.true c.i-item.is) at

pub loop-i-preserved : goal.loop-i-preserved
loop-i-preserved c = one_more_formed _ _ _ c.requires _ _ (slice_get_read c.args.order.now (length c.args.order.now) c.loop-i.i-index c.i-item.result refl c.loop-i-test.true c.i-item.is) _ _ c.loop-i.invariant c.in_ok-place.ensures
