use Rattle.nx_views.proofs.Refreshing.{cut_to_end}
use Rattle.nx_views.proofs.refresh.keep_front.Goals as goal

pub returns-clause-front : goal.returns-clause-front
returns-clause-front g c =
    cut_to_end c.same_front-kept.result c.shown_len-len.result c.args.faults.now
    ((goal.View-dyn g (c.args.view.now.vtable, c.args.view.now.value)).state c.args.view.now.value)
    ((goal.View-dyn g (c.cut.new.view.vtable, c.cut.new.view.value)).state c.cut.new.view.value)
    c.shown_len-len.ensures c.same_front-kept.ensures.same c.cut.ensures
