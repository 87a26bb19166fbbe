-- the definitions from a number on are known
use Rattle.std.proofs.Common.{◌≤◌, length, map, drop}
use Rattle.rng_core.specs.Meaning.{definition_of}
use Rattle.rng_kept.specs.Standing.{known_from}
use Rattle.deriv_nodes.specs.Numbers.{IsAt}
use Rattle.deriv_states.specs.Places.{LaterPlaces}
use Rattle.deriv_pool.proofs.known.known.Given as goal

abbrev pub invariant-loop-number : goal.invariant-loop-number
invariant-loop-number l = record {
  inside : l.number ≤ length l.defs;
  later : LaterPlaces l.fn.states l.states;
  made : IsAt l.states.patterns (known_from (drop l.number (map definition_of l.defs)) l.name l.number) l.known;
}

abbrev pub decreases-loop-number : goal.decreases-loop-number
decreases-loop-number l = l.number
