use Rattle.std.proofs.Common.{◌++◌, arith}
use Rattle.std.proofs.lemmas.Bool.{false≢true}
use Rattle.nx_text.specs.Borders.{IsBorder}
use Rattle.nx_text.proofs.Steps.{not_the_start}
use Rattle.nx_text.proofs.TwoPieces.{whole_utf8}
use Rattle.nx_text.proofs.apart.previous_border.Goals as goal

pub overflow_sub-previous-in-loop-previous : goal.overflow_sub-previous-in-loop-previous
overflow_sub-previous-in-loop-previous c =
    let whole = c.args.front.now ++ c.args.back.now in let previous = c.loop-previous.previous in
    let none : ¬ IsBorder whole previous = λ is. false≢true (c.loop-previous-test.ensures.1 is) in
    let some = not_the_start whole previous (whole_utf8 c.args.front.now c.args.back.now c.utf8.front c.utf8.back) none in
    omega (arith, some)

pub loop-previous-smaller : goal.loop-previous-smaller
loop-previous-smaller c =
    let whole = c.args.front.now ++ c.args.back.now in let previous = c.loop-previous.previous in
    let none : ¬ IsBorder whole previous = λ is. false≢true (c.loop-previous-test.ensures.1 is) in
    let some = not_the_start whole previous (whole_utf8 c.args.front.now c.args.back.now c.utf8.front c.utf8.back) none in
    omega (arith, some)
