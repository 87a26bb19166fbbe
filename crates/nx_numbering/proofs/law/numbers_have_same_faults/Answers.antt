use Rattle.nx_numbering.proofs.Faults.{numbers_have_same_faults}
use Rattle.nx_numbering.proofs.law.numbers_have_same_faults.Goals as goal

pub returns : goal.returns
returns c = numbers_have_same_faults
