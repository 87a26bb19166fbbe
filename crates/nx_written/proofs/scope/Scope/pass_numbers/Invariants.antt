use Rattle.std.proofs.Common.{◌≡◌}
use Rattle.nx_written.proofs.scope.Scope.pass_numbers.Given as goal

abbrev pub invariant-loop-number : goal.invariant-loop-number
invariant-loop-number l = l.self ≡ l.initial.self
