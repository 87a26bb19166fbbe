use Rattle.nx_views.specs.States.{moved_view}
use Rattle.nx_views.proofs.Shifting.{ChangedUpTo}
use Rattle.nx_views.proofs.shift.shift_all.Given as goal

abbrev pub invariant-loop-view : goal.invariant-loop-view
invariant-loop-view g l =
    ChangedUpTo (λ b. (goal.View-dyn g (b.vtable, b.value)).state b.value) (moved_view l.edit) l.fn.views.items l.view-items l.view-index
