use Rattle.std.proofs.Common.{sym, ◌∙◌, arith}
use Rattle.nx_locate.proofs.Spellings.{no_tag, inside_at, name_ended, name_further, name_whole}
use Rattle.nx_locate.proofs.document_element.start_name.Goals as goal

pub returns-in_default : goal.returns-in_default
returns-in_default c = c.new-name.ensures ∙ no_tag c.args.text.now c.args.from c.in_default.ensures.byte

pub loop-byte-smaller : goal.loop-byte-smaller
loop-byte-smaller c = omega (arith, inside_at c.args.text.now c.loop-byte.at c.in-Some-byte_at.byte c.in-Some-byte_at.ensures.byte)

pub returns-then-ends_name : goal.returns-then-ends_name
returns-then-ends_name c =
    name_ended c.args.text.now c.loop-byte.name c.args.from c.loop-byte.at c.loop-byte.invariant c.in-Some-byte_at.byte
    c.in-Some-byte_at.ensures.byte (sym c.if-ends_name.ensures)

pub loop-byte-preserved : goal.loop-byte-preserved
loop-byte-preserved c =
    name_further c.args.text.now c.loop-byte.name c.args.from c.loop-byte.at c.loop-byte.invariant c.in-Some-byte_at.byte c.push.new.self
    c.in-Some-byte_at.ensures.byte (sym c.if-ends_name.ensures) c.in_ok-push.ensures.ok

pub returns : goal.returns
returns c =
    name_whole c.args.text.now c.loop-byte.name c.args.from c.loop-byte.at c.loop-byte.invariant c.in_default-byte_at.ensures.byte
