use Rattle.std.proofs.Common.{length}
use Rattle.deriv_states.proofs.states.States.+tags_of_both.Given as goal

abbrev pub decreases-tags_of_both : goal.decreases-tags_of_both
decreases-tags_of_both l = length l.strict.now
