use Rattle.std.proofs.Common.{◌≡◌, ◌∙◌, arith, sym, ap, false, None}
use Rattle.nx_check.specs.Places.{has_there}
use Rattle.nx_check.proofs.Backing.{back-more, back-start, back-stop}
use Rattle.nx_check.proofs.place.back_over.Goals as goal

pub loop-at-preserved : goal.loop-at-preserved
loop-at-preserved c =
    c.loop-at.invariant ∙ back-more c.args.part c.args.text.now c.loop-at.at c.in-Some.byte (omega (arith, c.loop-at-test.true)) (sym c.byte_at.ensures.byte ∙ c.in-Some.is)
    (sym c.has.ensures ∙ c.if-has.true)

pub returns-in_default : goal.returns-in_default
returns-in_default c =
    back-stop c.args.part c.args.text.now c.loop-at.at (omega (arith, c.loop-at-test.true))
    (ap (has_there c.args.part) (sym c.byte_at.ensures.byte ∙ c.in-Some.is) ∙ sym c.has.ensures ∙ c.if-has.false) ∙ sym c.loop-at.invariant

pub returns-in_default-2 : goal.returns-in_default-2
returns-in_default-2 c =
    back-stop c.args.part c.args.text.now c.loop-at.at (omega (arith, c.loop-at-test.true))
    (ap (has_there c.args.part) (sym c.byte_at.ensures.byte ∙ c.in_default.is)) ∙ sym c.loop-at.invariant

pub returns : goal.returns
returns c = back-start c.args.part c.args.text.now c.loop-at.at (omega (arith, c.loop-at-test.false)) ∙ sym c.loop-at.invariant
