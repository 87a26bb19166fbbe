use Rattle.std.proofs.Common.{arith, sym}
use Rattle.std.proofs.lemmas.List.{length-take-le}
use Rattle.nx_events.proofs.Stacks.{all_before}
use Rattle.nx_events.proofs.stack.front_of.Goals as goal

pub slice_bounds-result-end : goal.slice_bounds-result-end
slice_bounds-result-end g c = sym (length-take-le 32 c.args.items.now (omega arith))

pub returns-else-items-gt-LOOKED_THROUGH : goal.returns-else-items-gt-LOOKED_THROUGH
returns-else-items-gt-LOOKED_THROUGH g c = all_before 32 c.args.items.now (omega arith)
