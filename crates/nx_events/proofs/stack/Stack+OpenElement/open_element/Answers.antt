use Rattle.std.proofs.Common.{refl}
use Rattle.nx_events.specs.declared.state.OpenElement.{OpenElement}
use Rattle.nx_events.proofs.Stacks.{pushed_names}
use Rattle.nx_events.proofs.stack.Stack+OpenElement.open_element.Goals as goal

pub invariant_of-self-in-Ok : goal.invariant_of-self-in-Ok
invariant_of-self-in-Ok c =
    pushed_names (λ (e : OpenElement). e.written) c.self.inside.items c.open_element.new.self _ c.self.inside.inner c.push_name.new.inner c.len-len.result c.args.written.now c.self.invariant c.len-len.ensures refl
    c.in-Ok.ensures.ok c.in_ok-push_name.ensures.ok
