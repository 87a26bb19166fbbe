use Rattle.std.proofs.Common.{sym, ◌∙◌}
use Rattle.nx_events.proofs.PlainTokens.{plain_text_is}
use Rattle.nx_events.proofs.plain_token.is_plain_text.Goals as goal

pub returns : goal.returns
returns c = λ kind is.
    plain_text_is c.args.state.now c.args.token.now c.as_slice.result.now c.as_slice.ensures (sym c.is_inside.ensures ∙ c.if-not-is_inside.false)
    (c.are_plain.ensures is) kind
