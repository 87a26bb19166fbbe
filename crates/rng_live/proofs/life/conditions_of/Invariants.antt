use Rattle.std.proofs.Common.{◌≡◌, ◌≤◌, length, map}
use Rattle.rng_core.specs.Meaning.{definition_of}
use Rattle.rng_live.specs.Spelling.{AreSpelledTo}
use Rattle.rng_live.proofs.life.conditions_of.Given as goal

abbrev pub invariant-loop-number : goal.invariant-loop-number
invariant-loop-number l = AreSpelledTo l.number (map definition_of l.defs) l.conditions.items.items
