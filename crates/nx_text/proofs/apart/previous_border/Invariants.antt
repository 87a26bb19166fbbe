use Rattle.std.proofs.Common.{◌++◌, ◌<◌}
use Rattle.nx_text.proofs.Steps.{NoneBetween}
use Rattle.nx_text.proofs.apart.previous_border.Given as goal

abbrev pub invariant-loop-previous : goal.invariant-loop-previous
invariant-loop-previous l = (l.previous < l.at) × NoneBetween (l.front ++ l.back) l.previous l.at

abbrev pub decreases-loop-previous : goal.decreases-loop-previous
decreases-loop-previous l = l.previous
