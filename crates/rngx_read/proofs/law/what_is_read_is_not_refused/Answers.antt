use Rattle.rngx_read.proofs.WholeFiles.{read_not_refused}
use Rattle.rngx_read.proofs.law.what_is_read_is_not_refused.Goals as goal

pub returns : goal.returns
returns c = read_not_refused
