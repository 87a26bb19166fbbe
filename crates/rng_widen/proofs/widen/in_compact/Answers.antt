use Rattle.std.proofs.Common.{length, refl}
use Rattle.rng_widen.proofs.Handing.{compact_answered}
use Rattle.rng_widen.proofs.widen.in_compact.Goals as goal

pub returns-in-Ok : goal.returns-in-Ok
returns-in-Ok c =
    compact_answered c.args.text.now c.in-Ok.tokens c.as_slice.result.now (length c.args.text.now) c.widenings_of.result
    c.in-Ok.ensures.lexes refl c.as_slice.ensures c.widenings_of.ensures

pub returns-in-Err : goal.returns-in-Err
returns-in-Err c = c.nothing.ensures c.in-Err.ensures.lexes
