use Rattle.nx_fill.proofs.Resting.{rests_complete}
use Rattle.nx_fill.proofs.law.rests_complete.Goals as goal

pub returns : goal.returns
returns c = rests_complete
