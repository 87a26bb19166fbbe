use Rattle.nx_complete.proofs.Exactness.{offers_are_exact}
use Rattle.nx_complete.proofs.law.offers_are_exact.Goals as goal

pub returns : goal.returns
returns c = offers_are_exact
