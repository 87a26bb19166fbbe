use Rattle.std.proofs.Common.{rules, arith}
use Rattle.nx_views.proofs.Closing.{one_closed}
use Rattle.nx_views.proofs.numbered.close_at.Goals as goal

pub returns : goal.returns
returns g c =
    one_closed (λ b. (goal.View-dyn g (b.vtable, b.value)).state b.value) c.args.views.now.items c.args.i c.index_mut.result.now c.close.new.view
    (omega (arith, c.args.views.now.ok.0)) (search rules) c.close.ensures
