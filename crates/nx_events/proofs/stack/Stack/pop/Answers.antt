use Rattle.nx_events.proofs.Stacks.{shortened_names}
use Rattle.nx_events.proofs.stack.Stack.pop.Goals as goal

pub invariant_of-self : goal.invariant_of-self
invariant_of-self g c =
    shortened_names g.T.Named.name_of c.self.inside.items c.pop.new.self c.self.inside.inner c.pop_name.new.inner c.len-len.result c.self.invariant c.len-len.ensures
    c.if-len-gt0.true c.pop.ensures c.pop_name.ensures
