-- Openings by the numbers of what is left behind them.
use Rattle.std.specs.Prelude.{◌≡◌, ◌<◌, List, length, map}
use Rattle.std.specs.List.{AllByRecursion}
use Rattle.rng_core.specs.Patterns.{Pattern}
use Rattle.rng_kept.specs.SmallPatterns.{group_of, interleave_of}
use Rattle.rng_kept.specs.Openings.{Opening, opening}
use Rattle.deriv_nodes.specs.declared.openings.Open.{Open}
use Rattle.deriv_nodes.specs.declared.openings.Place.{Place}
use Rattle.deriv_nodes.specs.declared.openings.Place.TheVariants.{InGroup, InFirst, InSecond}
use Rattle.deriv_nodes.specs.Numbers.{at}

abbrev pub opening_at : List Pattern → Open → Opening
opening_at nodes one = opening one.number (at nodes one.rest)

abbrev pub openings_at : List Pattern → List Open → List Opening
openings_at nodes opened = map (opening_at nodes) opened

-- what is left behind each is a node
abbrev pub AreNodes : List Pattern → List Open → Type 0
AreNodes nodes opened = AllByRecursion (λ one. one.rest < length nodes) opened

-- openings that stand for these
pub record AreOpened (nodes : List Pattern) (xs : List Opening) (opened : List Open) : Type 0 where
  pub rests : AreNodes nodes opened
  pub meaning : openings_at nodes opened ≡ xs

-- what is left of a whole, of which this is the other side, where this is left of the part
abbrev pub rest_of : Place → Pattern → Pattern → Pattern
rest_of InGroup side rest = group_of rest side
rest_of InFirst side rest = interleave_of rest side
rest_of InSecond side rest = interleave_of side rest

abbrev pub placed : Place → Pattern → Opening → Opening
placed place side one = opening one.number (rest_of place side one.rest)
