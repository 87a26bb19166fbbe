use Rattle.std.proofs.Common.{length}
use Rattle.deriv_states.proofs.states.States.+tags_at_top.Given as goal

abbrev pub decreases-tags_at_top : goal.decreases-tags_at_top
decreases-tags_at_top l = length l.opened.now
