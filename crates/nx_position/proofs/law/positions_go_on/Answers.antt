use Rattle.nx_position.proofs.Steps.{go_on}
use Rattle.nx_position.proofs.law.positions_go_on.Goals as goal

pub returns : goal.returns
returns c e text = go_on e text
