use Rattle.std.proofs.Common.{length}
use Rattle.nx_text.proofs.Making.{Making}
use Rattle.nx_text.proofs.text.Text.apply.Given as goal

abbrev pub invariant-loop-change : goal.invariant-loop-change
invariant-loop-change l = Making l.fn.self l.changes l.self-inside.bytes l.self-inside.feeds l.left

abbrev pub decreases-loop-change : goal.decreases-loop-change
decreases-loop-change l = length l.left
