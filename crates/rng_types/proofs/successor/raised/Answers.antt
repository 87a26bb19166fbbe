use Rattle.std.proofs.Common.{refl}
use Rattle.rng_types.proofs.Stepped.{raised_some, raised_none}
use Rattle.rng_types.proofs.successor.raised.Goals as goal

pub returns-in_ok-joined-in-Some : goal.returns-in_ok-joined-in-Some
returns-in_ok-joined-in-Some c =
    raised_some c.args.digits.now c.without_last-left.result.now c.in-Some.front.now c.in_ok-joined-in-Some.field-0 c.in-Some.last.now _ _ c.requires c.without_last-left.ensures.cut c.in-Some.ensures.cases.0
    (c.without_last-left.ensures.other _ _ c.in-Some.ensures.cases.0) refl c.in_ok-joined-in-Some.ensures

pub returns-in_ok-joined-in-None : goal.returns-in_ok-joined-in-None
returns-in_ok-joined-in-None c =
    raised_none c.args.digits.now c.without_last-left.result.now c.in_ok-joined-in-None.field-0 _ c.requires c.without_last-left.ensures.cut (c.in-None.ensures {u = tt}).cases c.in_ok-joined-in-None.ensures
