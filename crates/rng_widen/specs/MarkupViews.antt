-- What the program holds while it goes over events. No public contract rests on it.
use Rattle.std.specs.Prelude.{reverse}
use Rattle.rng_widen.specs.declared.markup.Walk.{Walk}
use Rattle.rng_widen.specs.MarkupWidenings.{Walked}

-- the elements around the innermost stand the other way round
abbrev pub walked_of : Walk → Walked
walked_of walk = record {
  inner = walk.inner;
  outer = reverse walk.outer.items;
  passed = walk.passed;
  found = walk.found.items;
  faulty = walk.faulty;
}
