-- Lists of events that are valid, and those that can become so: ISO/IEC 19757-2, section 9.4.
use Rattle.std.specs.Prelude.{◌≡◌, List, [], ◌++◌}
use Rattle.rng_core.specs.Patterns.{Pattern, Definition}
use Rattle.nx_base.specs.Trees.{Tree, Event, AreChildren, AreWritable, alone, flat}
use Rattle.rng_core.specs.Matching.{Matches}

-- the events of one tree that the pattern matches
pub record Valid (defs : List Definition) (p : Pattern) (events : List Event) : Type 0 where
  pub tree : Tree
  pub is_tree : AreChildren (alone tree)
  pub events_are : events ≡ flat tree
  pub matched : Matches defs p [] (alone tree)

-- events that can be written, and that make these ones valid
pub record IsRest (defs : List Definition) (p : Pattern) (events rest : List Event) : Type 0 where
  pub writable : AreWritable rest
  pub valid : Valid defs p (events ++ rest)

-- something can be written behind the events so that they are valid
pub record Viable (defs : List Definition) (p : Pattern) (events : List Event) : Type 0 where
  pub rest : List Event
  pub is_rest : IsRest defs p events rest
