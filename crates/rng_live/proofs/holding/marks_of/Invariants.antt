use Rattle.std.proofs.Common.{◌≡◌, ◌-◌, length, None}
use Rattle.rng_live.specs.Marking.{AreSettled}
use Rattle.rng_live.proofs.holding.marks_of.Given as goal

abbrev pub invariant-loop-number : goal.invariant-loop-number
invariant-loop-number l = record {
  settled : AreSettled l.conditions l.waiting.waiters.items None 0 0 l.number l.held.found.items;
  whole : length l.held.marks.items ≡ length l.conditions;
}

abbrev pub invariant-loop-next : goal.invariant-loop-next
invariant-loop-next l = record {
  settled : AreSettled l.conditions l.waiting.waiters.items None 0 l.next (length l.conditions) l.held.found.items;
  whole : length l.held.marks.items ≡ length l.conditions;
}

abbrev pub decreases-loop-next : goal.decreases-loop-next
decreases-loop-next l = length l.conditions - l.next
