-- A choice that nests to the left, by its right sides.
use Rattle.std.specs.Prelude.{List, [], ◌∷◌}
use Rattle.rng_core.specs.Names.{Class, either}

-- the choice of a class and others, the last of them being the innermost
abbrev pub choices : Class → List Class → Class
choices first [] = first
choices first (other ∷ others) = either (choices first others) other
