use Rattle.std.proofs.Common.{refl, sym}
use Rattle.deriv_memory.specs.declared.asked.Asked.TheVariants as calls
use Rattle.deriv_memory.proofs.memory.Memory.recalled_enter.Goals as goal

pub returns-in-Some : goal.returns-in-Some
returns-in-Some c =
    rw (← c.self.view_is) (sym (c.self.invariant.1.blocks (calls.Enter c.args.state c.args.ns c.args.local) c.in-Some.answer c.in-Some.ensures refl))
