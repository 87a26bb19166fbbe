use Rattle.std.proofs.Common.{◌≡◌, take}
use Rattle.nx_views.proofs.refresh.common_front.Given as goal

abbrev pub invariant-loop-i : goal.invariant-loop-i
invariant-loop-i l = take l.i l.shown ≡ take l.i l.faults
