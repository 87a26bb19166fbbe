use Rattle.std.proofs.Common.{ap}
use Rattle.deriv_memory.specs.Texts.{texts_in}
use Rattle.deriv_memory.proofs.Texts.{none_numbered}
use Rattle.deriv_memory.proofs.numbered_texts.Texts.new.Goals as goal

pub invariant_of-result : goal.invariant_of-result
invariant_of-result c = none_numbered _ _ (ap texts_in c.new.ensures.items) c.new-2.ensures.empty
