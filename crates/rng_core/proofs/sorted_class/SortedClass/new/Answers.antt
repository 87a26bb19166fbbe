use Rattle.rng_core.proofs.SortedNames.{nothing_sorted}
use Rattle.rng_core.proofs.sorted_class.SortedClass.new.Goals as goal

pub returns : goal.returns
returns c name = nothing_sorted c.new.result.keys c.new-2.result.items name c.new.ensures.empty c.new-2.ensures.items
