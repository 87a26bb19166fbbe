use Rattle.rngx_read.proofs.WholeFiles.{read_or_refused}
use Rattle.rngx_read.proofs.law.texts_are_read_or_refused.Goals as goal

pub returns : goal.returns
returns c = read_or_refused
