use Rattle.std.proofs.Common.{refl}
use Rattle.nx_events.proofs.PlainTokens.{plain_end_is}
use Rattle.nx_events.proofs.plain_token.is_plain_end.Goals as goal

pub returns : goal.returns
returns c = λ kind is.
    plain_end_is c.args.state.now c.args.token.now c.as_slice.result.now _ c.as_slice.ensures refl
    (c.is_end_of_innermost.ensures.place is) (c.is_end_of_innermost.ensures.some is) kind
