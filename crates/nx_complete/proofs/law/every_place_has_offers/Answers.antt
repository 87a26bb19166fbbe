use Rattle.nx_complete.proofs.Existence.{every_place_has_offers}
use Rattle.nx_complete.proofs.law.every_place_has_offers.Goals as goal

pub returns : goal.returns
returns c = every_place_has_offers
