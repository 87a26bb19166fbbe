use Rattle.std.proofs.Common.{arith}
use Rattle.nx_views.specs.States.{moved_view}
use Rattle.nx_views.proofs.Shifting.{all_changed}
use Rattle.nx_views.proofs.shift.shift_all.Goals as goal

pub returns : goal.returns
returns g c =
    let size = c.loop-view.invariant.size in
    let len = c.deref_mut-view-items.ensures.len in
    all_changed (λ b. (goal.View-dyn g (b.vtable, b.value)).state b.value) (moved_view c.args.edit.now)
    _ _ _ _ c.loop-view.view-index (omega (arith, size, len)) (omega (arith, c.loop-view-test.false)) c.loop-view.invariant
