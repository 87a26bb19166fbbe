use Rattle.std.proofs.Common.{◌≡◌, length}
use Rattle.nx_script.specs.Reading.{onto, pieces_at}
use Rattle.nx_script.proofs.quoted.pieces.Given as goal

abbrev pub invariant-loop-rest : goal.invariant-loop-rest
invariant-loop-rest l = onto l.text.items (pieces_at l.rest) ≡ pieces_at l.bytes

abbrev pub decreases-loop-rest : goal.decreases-loop-rest
decreases-loop-rest l = length l.rest
