use Rattle.rngx_read.proofs.Texts.{one_surface}
use Rattle.rngx_read.proofs.law.markup_is_read_as_one.Goals as goal

pub returns : goal.returns
returns c = one_surface
