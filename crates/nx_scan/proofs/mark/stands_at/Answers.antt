use Rattle.std.proofs.Common.{sym, ◌∙◌, arith}
use Rattle.nx_scan.proofs.Marks.{begins_with-short, stands-more, stands-not, stands-whole}
use Rattle.nx_scan.proofs.mark.stands_at.Goals as goal

pub returns-then-mark-len-clause-stands : goal.returns-then-mark-len-clause-stands
returns-then-mark-len-clause-stands c = sym (begins_with-short c.args.mark.now c.args.text.now c.args.at (omega arith))

pub returns-then-not-byte_is-clause-stands : goal.returns-then-not-byte_is-clause-stands
returns-then-not-byte_is-clause-stands c =
    stands-not c.args.mark.now c.args.text.now c.args.at c.loop-i.i c.loop-i.invariant c.loop-i-test.true
    (sym c.byte_is.ensures ∙ c.if-not-byte_is.true)

pub loop-i-preserved : goal.loop-i-preserved
loop-i-preserved c =
    stands-more c.args.mark.now c.args.text.now c.args.at c.loop-i.i c.loop-i.invariant c.loop-i-test.true
    (sym c.byte_is.ensures ∙ c.if-not-byte_is.false)

pub returns-clause-stands : goal.returns-clause-stands
returns-clause-stands c =
    stands-whole c.args.mark.now c.args.text.now c.args.at c.loop-i.i c.loop-i.invariant (omega arith)
