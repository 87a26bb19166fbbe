use Rattle.std.proofs.Common.{sym, ◌∙◌}
use Rattle.nx_events.proofs.PlainAttributes.{one_read, two_read}
use Rattle.nx_events.proofs.plain_opening.attributes_in.Goals as goal

pub returns-then-are_between : goal.returns-then-are_between
returns-then-are_between c = λ plain at.
    one_read at c.args.bytes.now _ c.in_ok-first.first.attribute plain c.in_ok-first.ensures (sym c.are_between.ensures ∙ c.if-are_between.true)

pub returns : goal.returns
returns c = λ plain at.
    two_read at c.args.bytes.now c.in_ok-first.first.rest.now _ c.in_ok-first.first.attribute c.in_ok-second.second.attribute plain c.in_ok-first.ensures c.in_ok-second.ensures
    (sym c.are_between-2.ensures ∙ c.if-not-are_between.false) (c.are_apart.ensures c.if-not-are_apart.false)
