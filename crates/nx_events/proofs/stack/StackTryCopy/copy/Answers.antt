use Rattle.nx_events.proofs.Stacks.{few_copied}
use Rattle.nx_events.proofs.stack.StackTryCopy.copy.Goals as goal

pub invariant_of-result : goal.invariant_of-result
invariant_of-result g c =
    few_copied g.T.Named.name_of c.args.self.now c.self.inside.items c.in_ok-copy.field-0 c.new.result c.len.result c.self.view_is c.in_ok-copy.ensures c.len.ensures
    c.if-len-le-LOOKED_THROUGH.true c.new.ensures
