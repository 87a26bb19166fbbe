use Rattle.std.proofs.Common.{vec_len, ◌-◌}
use Rattle.nx_views.proofs.Refreshing.{SoFar}
use Rattle.nx_views.proofs.refresh.refresh.Given as goal

abbrev pub invariant-loop-i : goal.invariant-loop-i
invariant-loop-i g l = SoFar (λ b. (goal.View-dyn g (b.vtable, b.value)).state b.value) l.faults l.fn.views.items l.views.items l.i

abbrev pub decreases-loop-i : goal.decreases-loop-i
decreases-loop-i g l = vec_len l.views - l.i
