use Rattle.nx_text.proofs.Listed.{kept_feeds}
use Rattle.nx_text.proofs.law.kept_feeds_are_of_text.Goals as goal

pub returns : goal.returns
returns c bytes feeds is = kept_feeds bytes feeds is
