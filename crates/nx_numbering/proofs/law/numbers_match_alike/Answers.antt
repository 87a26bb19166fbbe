use Rattle.nx_numbering.proofs.Matching.{numbers_match_alike}
use Rattle.nx_numbering.proofs.law.numbers_match_alike.Goals as goal

pub returns : goal.returns
returns c = numbers_match_alike
