-- what is left to let go is no deeper
use Rattle.std.proofs.Common.{◌≤◌}
use Rattle.deriv_plain.specs.declared.around.Around.{size-Around}
use Rattle.deriv_plain.proofs.around.Around.+drop.Given as goal

abbrev pub invariant-loop-self : goal.invariant-loop-self
invariant-loop-self l = size-Around l.self ≤ size-Around l.fn.self
