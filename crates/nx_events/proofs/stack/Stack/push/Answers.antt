use Rattle.nx_events.proofs.Stacks.{pushed_names}
use Rattle.nx_events.proofs.stack.Stack.push.Goals as goal

pub invariant_of-self-in-Ok : goal.invariant_of-self-in-Ok
invariant_of-self-in-Ok g c =
    pushed_names g.T.Named.name_of c.self.inside.items c.push.new.self c.args.item c.self.inside.inner c.push_name.new.inner c.len-len.result c.name.result.now c.self.invariant c.len-len.ensures c.name.ensures
    c.in-Ok.ensures.ok c.in_ok-push_name.ensures.ok
