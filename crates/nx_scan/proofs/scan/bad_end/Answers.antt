use Rattle.std.proofs.Common.{sym, ◌∙◌, arith}
use Rattle.nx_scan.proofs.BadEnds.{bad-less, bad-greater, bad-further, bad-whole}
use Rattle.nx_scan.proofs.scan.bad_end.Goals as goal

pub returns-then-byte_is : goal.returns-then-byte_is
returns-then-byte_is c =
    bad-less c.args.text.now c.args.from c.loop-place.place c.requires.utf8 c.loop-place.invariant
    (sym c.byte_is.ensures ∙ c.if-byte_is.true) c.new.result c.new.ensures.kind c.new.ensures.place

pub returns-then-byte_is-2 : goal.returns-then-byte_is-2
returns-then-byte_is-2 c =
    bad-greater c.args.text.now c.args.from c.loop-place.place c.requires.utf8 c.loop-place.invariant
    (sym c.byte_is.ensures ∙ c.if-byte_is.false) (sym c.byte_is-in-loop-place.ensures ∙ c.if-byte_is-2.true)
    c.new-then-byte_is-2.result c.new-then-byte_is-2.ensures.kind c.new-then-byte_is-2.ensures.place

pub loop-place-preserved : goal.loop-place-preserved
loop-place-preserved c =
    bad-further c.args.text.now c.args.from c.loop-place.place c.requires.utf8 c.loop-place.invariant (omega arith)
    (sym c.byte_is.ensures ∙ c.if-byte_is.false) (sym c.byte_is-in-loop-place.ensures ∙ c.if-byte_is-2.false)

pub returns : goal.returns
returns c =
    bad-whole c.args.text.now c.args.from c.loop-place.place c.requires.utf8 c.loop-place.invariant (omega arith) (omega arith)
    c.new-2.result c.new-2.ensures.kind (omega (arith, c.new-2.ensures.place))
