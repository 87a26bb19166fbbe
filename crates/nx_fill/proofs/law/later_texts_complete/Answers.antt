use Rattle.nx_fill.proofs.Later.{later_texts_complete}
use Rattle.nx_fill.proofs.law.later_texts_complete.Goals as goal

pub returns : goal.returns
returns c = later_texts_complete
