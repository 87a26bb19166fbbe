use Rattle.nx_numbering.proofs.Offers.{numbers_have_same_offers}
use Rattle.nx_numbering.proofs.law.numbers_have_same_offers.Goals as goal

pub returns : goal.returns
returns c = numbers_have_same_offers
