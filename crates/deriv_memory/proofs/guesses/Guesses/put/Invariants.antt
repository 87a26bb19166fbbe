use Rattle.std.proofs.Common.{◌-◌}
use Rattle.deriv_memory.proofs.guesses.Guesses.put.Given as goal

abbrev pub decreases-loop-self : goal.decreases-loop-self
decreases-loop-self l = 4096 - l.self.numbers.len
