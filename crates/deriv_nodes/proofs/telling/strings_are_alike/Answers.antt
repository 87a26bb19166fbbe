use Rattle.deriv_nodes.proofs.Untold.{same_after, same_attribute}
use Rattle.deriv_nodes.proofs.telling.strings_are_alike.Goals as goal

pub returns : goal.returns
returns c = record { strings = same_after; values = same_attribute }
