use Rattle.std.proofs.Common.{◌∙◌, arith}
use Rattle.nx_move.proofs.Cutting.{at_end}
use Rattle.nx_move.proofs.tag.next_tag.Goals as goal

pub returns-in_default : goal.returns-in_default
returns-in_default g c =
    let end = rw c.in_default.is at c.in_ok-piece.ensures in
    c.loop-piece.invariant.same ∙ at_end c.args.text.now c.loop-piece.place (omega (arith, end))
