use Rattle.rngx_read.proofs.Texts.{not_refused}
use Rattle.rngx_read.proofs.law.markup_read_is_not_refused.Goals as goal

pub returns : goal.returns
returns c = not_refused
