use Rattle.std.proofs.Common.{◌≡◌, map, length}
use Rattle.nx_session.specs.Tagging.{shifted_by}
use Rattle.nx_session.proofs.session.telling.shift_by.Given as goal

abbrev pub invariant-loop-change : goal.invariant-loop-change
invariant-loop-change g l =
    shifted_by l.left (map (λ b. (goal.View-dyn g (b.vtable, b.value)).state b.value) l.views.items)
    ≡ shifted_by l.changes (map (λ b. (goal.View-dyn g (b.vtable, b.value)).state b.value) l.fn.views.items)

abbrev pub decreases-loop-change : goal.decreases-loop-change
decreases-loop-change g l = length l.left
