use Rattle.rngx_read.proofs.WholeFiles.{read_as_one}
use Rattle.rngx_read.proofs.law.texts_are_read_as_one.Goals as goal

pub returns : goal.returns
returns c = read_as_one
