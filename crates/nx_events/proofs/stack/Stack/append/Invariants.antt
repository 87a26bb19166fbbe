use Rattle.std.proofs.Common.{◌≡◌, ◌++◌, take, length}
use Rattle.nx_events.proofs.stack.Stack.append.Given as goal

abbrev pub invariant-loop-item : goal.invariant-loop-item
invariant-loop-item g l = (l.len ≡ length l.initial.self) × (l.self ≡ l.initial.self ++ take l.item-index l.more)
