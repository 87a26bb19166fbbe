use Rattle.std.proofs.Common.{◌≡◌, ◌-◌, length, map}
use Rattle.rng_core.specs.Meaning.{definition_of}
use Rattle.rng_live.proofs.Leavings.{LeavesSoFar}
use Rattle.rng_live.proofs.prune.left_definitions.Given as goal

abbrev pub invariant-loop-next : goal.invariant-loop-next
invariant-loop-next l = record {
  so_far : LeavesSoFar l.life.conditions.now l.life.marks.now (map definition_of l.defs) l.initial.kept.numbers.items l.kept.numbers.items (map definition_of l.made);
  steady : length l.kept.seen.items ≡ length l.initial.kept.seen.items;
  whole : length l.kept.seen.items ≡ length l.defs;
  place : length l.made ≡ l.next;
}

abbrev pub decreases-loop-next : goal.decreases-loop-next
decreases-loop-next l = length l.defs - l.next
