use Rattle.std.proofs.Common.{◌+◌, length}
use Rattle.nx_marks.proofs.balance.+joined.Given as goal

abbrev pub decreases-joined : goal.decreases-joined
decreases-joined g l = length l.front + length l.behind
