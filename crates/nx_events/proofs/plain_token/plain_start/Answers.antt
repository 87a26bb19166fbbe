use Rattle.std.proofs.Common.{sym, ◌∙◌}
use Rattle.nx_events.proofs.PlainTokens.{plain_start_is}
use Rattle.nx_events.proofs.plain_token.plain_start.Goals as goal

pub returns : goal.returns
returns c = λ kind.
    plain_start_is c.args.state.now c.args.token.now c.as_slice.result.now c.in_ok-written.written.now c.as_slice.ensures c.in_ok-written.ensures
    (sym c.is_behind.ensures ∙ c.if-is_behind.false) kind
