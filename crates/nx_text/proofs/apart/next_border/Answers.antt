use Rattle.std.proofs.Common.{◌++◌, arith}
use Rattle.std.proofs.lemmas.Bool.{false≢true}
use Rattle.nx_text.specs.Borders.{IsBorder}
use Rattle.nx_text.proofs.Steps.{not_the_end, none_more}
use Rattle.nx_text.proofs.apart.next_border.Goals as goal

pub loop-next-smaller : goal.loop-next-smaller
loop-next-smaller c =
    let whole = c.args.front.now ++ c.args.back.now in let next = c.loop-next.next in
    let none : ¬ IsBorder whole next = λ is. false≢true (c.loop-next-test.ensures.1 is) in
    let lt = not_the_end whole next none c.loop-next.invariant.1 in
    omega (arith, lt)

pub loop-next-preserved : goal.loop-next-preserved
loop-next-preserved c =
    let whole = c.args.front.now ++ c.args.back.now in let next = c.loop-next.next in
    let none : ¬ IsBorder whole next = λ is. false≢true (c.loop-next-test.ensures.1 is) in
    let lt = not_the_end whole next none c.loop-next.invariant.1 in
    (omega arith, omega arith, none_more whole c.args.at next c.loop-next.invariant.2 none)
