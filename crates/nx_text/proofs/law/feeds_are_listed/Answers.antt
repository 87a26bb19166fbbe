use Rattle.nx_text.proofs.Listed.{rises, each_feed}
use Rattle.nx_text.proofs.law.feeds_are_listed.Goals as goal

pub returns : goal.returns
returns c text = (rises 0 text, each_feed text)
