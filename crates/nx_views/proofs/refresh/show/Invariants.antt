use Rattle.std.proofs.Common.{◌≡◌, take}
use Rattle.nx_views.specs.States.{AfterPuts}
use Rattle.nx_views.proofs.refresh.show.Given as goal

abbrev pub invariant-loop-i : goal.invariant-loop-i
invariant-loop-i g l =
    let was = (goal.View-dyn g (l.fn.view.vtable, l.fn.view.value)) in
    let now = (goal.View-dyn g (l.view.vtable, l.view.value)) in
    record {
      list : (now.state l.view.value).list ≡ take l.i l.faults;
      after : AfterPuts l.i (was.state l.fn.view.value) (now.state l.view.value);
    }
