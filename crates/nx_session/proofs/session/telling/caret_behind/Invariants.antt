use Rattle.std.proofs.Common.{◌≡◌, length}
use Rattle.nx_session.specs.Telling.{caret_behind}
use Rattle.nx_session.proofs.session.telling.caret_behind.Given as goal

abbrev pub invariant-loop-change : goal.invariant-loop-change
invariant-loop-change l = caret_behind l.left l.place ≡ caret_behind l.changes l.caret

abbrev pub decreases-loop-change : goal.decreases-loop-change
decreases-loop-change l = length l.left
