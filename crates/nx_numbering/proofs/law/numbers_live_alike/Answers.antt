use Rattle.nx_numbering.proofs.Restrictions.{numbers_live_alike}
use Rattle.nx_numbering.proofs.law.numbers_live_alike.Goals as goal

pub returns : goal.returns
returns c = numbers_live_alike
