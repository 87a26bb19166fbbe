-- the numbers before the place were followed
use Rattle.std.proofs.Common.{◌≡◌, ◌≤◌, ◌-◌, length}
use Rattle.rng_core.specs.Meaning.{pattern_of, definitions_of}
use Rattle.rng_restrict.proofs.Reached.{Spread}
use Rattle.rng_restrict.proofs.reach.reached.Given as goal

abbrev pub invariant-loop-next : goal.invariant-loop-next
invariant-loop-next l = record {
  spread : Spread (pattern_of l.grammar.start) (definitions_of l.grammar) l.reach.found.items l.next;
  within : l.next ≤ length l.reach.found.items;
  steady : length l.reach.seen.items ≡ length (definitions_of l.grammar);
}

abbrev pub decreases-loop-next : goal.decreases-loop-next
decreases-loop-next l = length (definitions_of l.grammar) - l.next
