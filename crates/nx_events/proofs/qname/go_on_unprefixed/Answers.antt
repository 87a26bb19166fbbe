use Rattle.std.proofs.Common.{ap, sym, ◌∙◌, arith}
use Rattle.nx_events.specs.Names.{goes_on_unprefixed}
use Rattle.nx_events.proofs.Characters.{names_more, names_stop, names_cut, names_end}
use Rattle.nx_events.proofs.qname.go_on_unprefixed.Goals as goal

pub loop-rest-preserved : goal.loop-rest-preserved
loop-rest-preserved c =
    names_more c.loop-rest.rest.now c.continuation_len-len.result (omega arith) c.continuation_len-len.ensures (omega arith)
    (sym (ap goes_on_unprefixed c.front_char.ensures) ∙ sym c.goes_on_unprefixed.ensures ∙ c.if-not-goes_on_unprefixed.false)
    ∙ c.loop-rest.invariant

pub returns-then-rest-len : goal.returns-then-rest-len
returns-then-rest-len c = sym (names_cut c.loop-rest.rest.now c.continuation_len-len.result c.continuation_len-len.ensures (omega arith)) ∙ c.loop-rest.invariant

pub returns-then-not-goes_on_unprefixed : goal.returns-then-not-goes_on_unprefixed
returns-then-not-goes_on_unprefixed c =
    sym (names_stop c.loop-rest.rest.now c.continuation_len-len.result (omega arith) c.continuation_len-len.ensures (omega arith)
    (sym (ap goes_on_unprefixed c.front_char.ensures) ∙ sym c.goes_on_unprefixed.ensures ∙ c.if-not-goes_on_unprefixed.true))
    ∙ c.loop-rest.invariant

pub returns : goal.returns
returns c = sym (names_end c.loop-rest.rest.now (sym c.is_empty.ensures ∙ c.loop-rest-test.false)) ∙ c.loop-rest.invariant
