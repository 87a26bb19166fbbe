use Rattle.nx_move.proofs.Leading.{one_place}
use Rattle.nx_move.proofs.moving.leads_to_one_place.Goals as goal

pub returns : goal.returns
returns c = one_place
