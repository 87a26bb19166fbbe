use Rattle.deriv_states.proofs.Untold.{same_chars, same_value}
use Rattle.deriv_states.proofs.telling.texts_are_alike.Goals as goal

pub returns : goal.returns
returns c = record { texts = same_chars; values = same_value }
