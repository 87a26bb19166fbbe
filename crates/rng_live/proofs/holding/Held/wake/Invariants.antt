use Rattle.std.proofs.Common.{◌≡◌, length}
use Rattle.rng_live.proofs.Settling.{IsWaking, list_left}
use Rattle.rng_live.proofs.holding.Held.wake.Given as goal

abbrev pub invariant-loop-list : goal.invariant-loop-list
invariant-loop-list l = record {
  waking : IsWaking l.conditions l.waiting.waiters.items l.waiting.lists.items l.number l.initial.self.found.items l.list l.self.found.items;
  steady : length l.self.marks.items ≡ length l.initial.self.marks.items;
  whole : length l.self.marks.items ≡ length l.conditions;
}

abbrev pub decreases-loop-list : goal.decreases-loop-list
decreases-loop-list l = list_left l.list
