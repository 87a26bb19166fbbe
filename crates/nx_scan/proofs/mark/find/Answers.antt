use Rattle.std.proofs.Common.{sym, ◌∙◌, arith}
use Rattle.nx_scan.proofs.Marks.{before-here, before-more, before-end}
use Rattle.nx_scan.proofs.mark.find.Goals as goal

pub returns-then-stands_at-clause-first : goal.returns-then-stands_at-clause-first
returns-then-stands_at-clause-first c =
    sym (c.loop-at.invariant ∙ before-here c.args.mark.now c.args.text.now c.loop-at.at (omega arith) (sym c.stands_at.ensures.stands ∙ c.if-stands_at.true))

pub loop-at-preserved : goal.loop-at-preserved
loop-at-preserved c =
    c.loop-at.invariant
    ∙ before-more c.args.mark.now c.args.text.now c.loop-at.at (omega arith) (sym c.stands_at.ensures.stands ∙ c.if-stands_at.false)

pub returns-clause-first : goal.returns-clause-first
returns-clause-first c =
    sym (c.loop-at.invariant ∙ before-end c.args.mark.now c.args.text.now c.loop-at.at (omega arith))
