-- the definitions from a number on are still to be looked at
use Rattle.std.proofs.Common.{◌≡◌, map, drop}
use Rattle.rng_core.specs.Meaning.{pattern_of, definition_of}
use Rattle.rng_kept.specs.Standing.{known_from}
use Rattle.deriv_plain.specs.Known.{with_known}
use Rattle.deriv_plain.proofs.plain.known.Given as goal

abbrev pub invariant-loop-number : goal.invariant-loop-number
invariant-loop-number l = with_known (pattern_of l.known) (drop l.number (map definition_of l.defs)) l.name l.number ≡ known_from (map definition_of l.defs) l.name 0
