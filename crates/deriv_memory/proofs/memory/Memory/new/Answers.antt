use Rattle.std.proofs.Common.{rules}
use Rattle.deriv_memory.proofs.Holding.{none_noted}
use Rattle.deriv_memory.proofs.memory.Memory.new.Goals as goal

pub invariant_of-result : goal.invariant_of-result
invariant_of-result c = (search rules, none_noted c.new-3.result.entries c.new-4.result c.new-3.ensures.empty c.new-4.ensures.rows c.new-4.ensures.slots c.new-4.ensures.blocks)
