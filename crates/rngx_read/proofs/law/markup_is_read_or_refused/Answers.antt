use Rattle.rngx_read.proofs.Texts.{read_or_not}
use Rattle.rngx_read.proofs.law.markup_is_read_or_refused.Goals as goal

pub returns : goal.returns
returns c = read_or_not
