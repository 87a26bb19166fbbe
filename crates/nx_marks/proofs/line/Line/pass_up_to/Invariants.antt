use Rattle.std.proofs.Common.{length}
use Rattle.nx_marks.proofs.Passing.{LettingGo}
use Rattle.nx_marks.proofs.line.Line.pass_up_to.Given as goal

abbrev pub invariant-loop-self : goal.invariant-loop-self
invariant-loop-self g l = LettingGo l.count l.fn.self l.self

abbrev pub decreases-loop-self : goal.decreases-loop-self
decreases-loop-self g l = length l.self.aside
