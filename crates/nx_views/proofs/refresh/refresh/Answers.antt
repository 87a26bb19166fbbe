use Rattle.std.proofs.Common.{arith}
use Rattle.nx_views.proofs.Refreshing.{left-on, gone-on, starved, refreshed}
use Rattle.std.proofs.lemmas.Result.{err_from_is_err_and}
use Rattle.nx_views.proofs.refresh.refresh.Goals as goal

pub loop-i-preserved-then-branch : goal.loop-i-preserved-then-branch
loop-i-preserved-then-branch g c =
    left-on (λ b. (goal.View-dyn g (b.vtable, b.value)).state b.value) c.args.faults.now c.args.views.now.items
    c.loop-i.views.items c.refresh_at.new.views.items c.loop-i.i (omega (arith, c.loop-i.views.ok.0))
    (rw (c.if-branch.true, c.as_slice.ensures) at c.in_ok-refresh_at.ensures) c.loop-i.invariant

pub loop-i-preserved : goal.loop-i-preserved
loop-i-preserved g c =
    gone-on (λ b. (goal.View-dyn g (b.vtable, b.value)).state b.value) c.args.faults.now c.args.views.now.items
    c.loop-i.views.items c.refresh_at.new.views.items c.loop-i.i (omega (arith, c.loop-i.views.ok.0))
    (rw (c.if-branch.false, c.as_slice.ensures) at c.in_ok-refresh_at.ensures) c.loop-i.invariant

pub returns-in_err-refresh_at-clause-err : goal.returns-in_err-refresh_at-clause-err
returns-in_err-refresh_at-clause-err g c =
    let p = err_from_is_err_and c.from_residual.result c.from_residual.ensures.1 in
    rw p.1 (starved (λ b. (goal.View-dyn g (b.vtable, b.value)).state b.value) c.args.faults.now c.args.views.now.items
    c.loop-i.views.items c.refresh_at.new.views.items c.loop-i.i (omega (arith, c.loop-i.views.ok.0))
    (rw c.as_slice.ensures at c.in_err-refresh_at.ensures) c.loop-i.invariant)

pub returns-clause-ok : goal.returns-clause-ok
returns-clause-ok g c =
    refreshed (λ b. (goal.View-dyn g (b.vtable, b.value)).state b.value) c.args.faults.now c.args.views.now.items
    c.loop-i.views.items c.loop-i.i (omega (arith, c.loop-i-test.false)) c.loop-i.invariant
