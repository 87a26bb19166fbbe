use Rattle.nx_complete.proofs.Uniqueness.{offers_are_one}
use Rattle.nx_complete.proofs.law.offers_are_one.Goals as goal

pub returns : goal.returns
returns c = offers_are_one
