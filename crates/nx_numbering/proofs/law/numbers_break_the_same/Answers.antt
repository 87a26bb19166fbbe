use Rattle.nx_numbering.proofs.Restrictions.{numbers_break_the_same}
use Rattle.nx_numbering.proofs.law.numbers_break_the_same.Goals as goal

pub returns : goal.returns
returns c = numbers_break_the_same
