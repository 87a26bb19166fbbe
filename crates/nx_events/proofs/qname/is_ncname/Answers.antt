use Rattle.std.proofs.Common.{true, false, refl, ap, sym, ◌∙◌, arith}
use Rattle.nx_events.specs.Names.{begins_unprefixed}
use Rattle.nx_events.proofs.Characters.{ncname_whole, ncname_cut, ncname_empty}
use Rattle.nx_events.proofs.PlainNames.{plain_name}
use Rattle.nx_events.proofs.qname.is_ncname.Goals as goal

pub returns-then-is_plain_name : goal.returns-then-is_plain_name
returns-then-is_plain_name c = sym (plain_name c.args.name.now (c.is_plain_name.ensures c.if-is_plain_name.true))

pub returns-then-is_empty : goal.returns-then-is_empty
returns-then-is_empty c = sym (ncname_empty c.args.name.now (sym c.is_empty.ensures ∙ c.if-is_empty.true))

pub returns-then-name-len : goal.returns-then-name-len
returns-then-name-len c = sym (ncname_cut c.args.name.now c.continuation_len-len.result c.continuation_len-len.ensures (omega arith))

pub returns-then-begins_unprefixed : goal.returns-then-begins_unprefixed
returns-then-begins_unprefixed c =
    ncname_whole c.args.name.now c.continuation_len-len.result true c.go_on_unprefixed.result (omega arith) c.continuation_len-len.ensures (omega arith)
    (sym (ap begins_unprefixed c.front_char.ensures) ∙ sym c.begins_unprefixed.ensures ∙ c.if-begins_unprefixed.true) c.go_on_unprefixed.ensures

pub returns-else-begins_unprefixed : goal.returns-else-begins_unprefixed
returns-else-begins_unprefixed c =
    c.if-begins_unprefixed.false ∙ ncname_whole c.args.name.now c.continuation_len-len.result false _ (omega arith) c.continuation_len-len.ensures (omega arith)
    (sym (ap begins_unprefixed c.front_char.ensures) ∙ sym c.begins_unprefixed.ensures ∙ c.if-begins_unprefixed.false) refl
