use Rattle.std.proofs.Common.{refl, length}
use Rattle.std.proofs.lemmas.Option.{slice_get_read}
use Rattle.rng_simplify.proofs.copies.check_excepts.Goals as goal

pub parts_taken_at-requires-clause-known : goal.parts_taken_at-requires-clause-known
parts_taken_at-requires-clause-known c = λ cell at j within. c.requires.each_part _ _ cell (slice_get_read c.args.order.now (length c.args.order.now) c.loop-i.i-index c.i-item.result refl c.loop-i-test.true c.i-item.is) at j within
