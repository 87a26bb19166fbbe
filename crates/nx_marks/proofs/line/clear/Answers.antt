use Rattle.std.proofs.Common.{◌∙◌}
use Rattle.nx_marks.proofs.Walking.{cut_everything}
use Rattle.nx_marks.proofs.line.clear.Goals as goal

pub returns : goal.returns
returns c = c.cut.ensures ∙ cut_everything c.args.faults.now c.len-count.result c.len-count.ensures
