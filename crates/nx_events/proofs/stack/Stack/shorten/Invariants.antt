use Rattle.std.proofs.Common.{◌≡◌, length, take}
use Rattle.nx_events.proofs.stack.Stack.shorten.Given as goal

abbrev pub invariant-loop-self : goal.invariant-loop-self
invariant-loop-self g l = take l.n l.self ≡ take l.n l.initial.self

abbrev pub decreases-loop-self : goal.decreases-loop-self
decreases-loop-self g l = length l.self
