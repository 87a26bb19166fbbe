use Rattle.std.proofs.Common.{◌≡◌, ◌∙◌, ◌≤◌, arith}
use Rattle.nx_places.proofs.Lines.{no_more_lines}
use Rattle.nx_places.proofs.place.start_of_line.Goals as goal

pub returns-else-at-len-clause-start : goal.returns-else-at-len-clause-start
returns-else-at-len-clause-start c =
    let over = c.if-at-len.false in let len = c.len.ensures.bytes in
    no_more_lines c.args.text.now c.loop-lines.at c.loop-lines.lines (omega (arith, over, len)) ∙ c.loop-lines.invariant.1
