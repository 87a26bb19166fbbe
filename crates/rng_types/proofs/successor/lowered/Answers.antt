use Rattle.std.proofs.Common.{refl}
use Rattle.rng_types.proofs.Stepped.{lowered_some, lowered_none}
use Rattle.rng_types.proofs.successor.lowered.Goals as goal

pub unreachable-requires : goal.unreachable-requires
unreachable-requires c =
    lowered_none c.args.digits.now c.without_last-left.result.now _ c.requires.digits c.requires.some c.without_last-left.ensures.cut (c.in-None.ensures {u = tt}).cases

pub returns : goal.returns
returns c =
    lowered_some c.args.digits.now c.without_last-left.result.now c.in-Some.front.now c.in_ok-joined-in-Some.field-0 c.in-Some.last.now _ _ c.requires.digits c.without_last-left.ensures.cut c.in-Some.ensures.cases.0
    (c.without_last-left.ensures.other _ _ c.in-Some.ensures.cases.0) refl c.in_ok-joined-in-Some.ensures
