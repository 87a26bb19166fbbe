use Rattle.std.proofs.Common.{arith}
use Rattle.std.proofs.lemmas.Grind.{common_steps}
use Rattle.nx_events.proofs.Pieces.{piece_positive}
use Rattle.nx_events.proofs.piece.front_piece.Goals as goal

pub returns-clause-some : goal.returns-clause-some
returns-clause-some c =
    let some = piece_positive c.args.reading c.args.bytes.now c.requires in
    grind (arith, common_steps)
