-- Patterns that match nothing at all.
use Rattle.std.specs.Prelude.{Bool, true, false, ◌&&◌, ◌||◌}
use Rattle.rng_core.specs.Patterns.{Pattern, empty, any_text, one_or_more, choice, group, interleave}

-- whether no attributes and no children match
abbrev pub nullable : Pattern → Bool
nullable empty = true
nullable any_text = true
nullable (one_or_more p) = nullable p
nullable (choice p q) = nullable p || nullable q
nullable (group p q) = nullable p && nullable q
nullable (interleave p q) = nullable p && nullable q
nullable _ = false
