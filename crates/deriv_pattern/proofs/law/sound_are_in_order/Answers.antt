use Rattle.deriv_pattern.proofs.InOrder.{sound_in_order}
use Rattle.deriv_pattern.proofs.law.sound_are_in_order.Goals as goal

pub returns : goal.returns
returns c = λ count p s. sound_in_order c.sound_excepts_suit.ensures s
