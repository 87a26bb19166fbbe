use Rattle.std.proofs.Common.{◌+◌, ◌≤◌, length, sym, ◌∙◌, arith}
use Rattle.nx_events.proofs.Tags.{value_is, rest_len, none_in_nothing, none_between, none_without_quote, none_without_end, one_begins}
use Rattle.nx_events.proofs.tag.attribute_extent.Goals as goal

pub returns-then-is_empty : goal.returns-then-is_empty
returns-then-is_empty c = none_in_nothing c.args.bytes.now (sym c.is_empty.ensures ∙ c.if-is_empty.true)

pub returns-then-is_between : goal.returns-then-is_between
returns-then-is_between c = none_between c.args.bytes.now (sym c.is_between.ensures ∙ c.if-is_between.true)

pub returns-then-quote-bytes : goal.returns-then-quote-bytes
returns-then-quote-bytes c = none_without_quote c.args.bytes.now (omega (arith, c.quote_place-quote.ensures.value))

pub returns-then-value-rest : goal.returns-then-value-rest
returns-then-value-rest c =
    let bytes = c.args.bytes.now in
    let value = c.byte_place-value.ensures.value ∙ value_is bytes c.quote_place-quote.result c.quote_place-quote.ensures.value in
    none_without_end bytes (omega (arith, value, rest_len bytes (c.quote_place-quote.result + 1), c.quote_place-quote.ensures.value, c.if-value-rest.true))

pub returns : goal.returns
returns c =
    let bytes = c.args.bytes.now in
    let value = c.byte_place-value.ensures.value ∙ value_is bytes c.quote_place-quote.result c.quote_place-quote.ensures.value in
    let room : c.quote_place-quote.result + c.byte_place-value.result + 2 ≤ length bytes = omega (arith, c.byte_place-value.ensures.bound, rest_len bytes (c.quote_place-quote.result + 1), c.if-value-rest.false, c.quote_place-quote.ensures.bound, c.if-quote-bytes.false) in
    let begins = one_begins bytes (sym c.is_between.ensures ∙ c.if-is_between.false) (omega (arith, room, value, c.quote_place-quote.ensures.value)) in
    (begins, c.quote_place-quote.ensures.value, value, room)
