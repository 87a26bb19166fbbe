use Rattle.nx_host.proofs.JoinsOrBad.{joins_or_bad}
use Rattle.nx_host.proofs.uri.texts_join_or_are_bad.Goals as goal

pub returns : goal.returns
returns c = joins_or_bad
