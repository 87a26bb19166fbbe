use Rattle.std.proofs.Common.{length}
use Rattle.deriv_states.proofs.states.States.+tags_of_loose.Given as goal

abbrev pub decreases-tags_of_loose : goal.decreases-tags_of_loose
decreases-tags_of_loose l = length l.loose.now
