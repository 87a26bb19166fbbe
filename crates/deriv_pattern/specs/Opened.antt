-- What the openings of the program stand for.
use Rattle.std.specs.Prelude.{List, map}
use Rattle.rng_core.specs.Meaning.{pattern_of}
use Rattle.rng_core.specs.Patterns.{Pattern}
use Rattle.rng_kept.specs.Openings.{Opening, opening, then_group, then_interleave, under_interleave}
use Rattle.deriv_pattern.specs.declared.openings.Open.{Open}
use Rattle.deriv_pattern.specs.declared.openings.Place.{Place}
use Rattle.deriv_pattern.specs.declared.openings.Place.TheVariants.{InGroup, InFirst, InSecond}

abbrev pub opening_of : Open → Opening
opening_of open' = opening open'.number (pattern_of open'.rest)

abbrev pub openings_of : List Open → List Opening
openings_of opened = map opening_of opened

-- an opening of a part as one of the whole, of which this is the other side
abbrev pub placed : Place → Pattern → Opening → Opening
placed InGroup = then_group
placed InFirst = then_interleave
placed InSecond = under_interleave
