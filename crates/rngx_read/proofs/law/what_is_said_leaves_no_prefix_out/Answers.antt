use Rattle.rngx_read.proofs.Whole.{file_whole}
use Rattle.rngx_read.proofs.law.what_is_said_leaves_no_prefix_out.Goals as goal

pub returns : goal.returns
returns c = file_whole
