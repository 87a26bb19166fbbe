-- What is needed at nodes, as far as it is kept.
use Rattle.std.specs.Prelude.{◌≡◌, ℕ, ◌<◌, List, [], ◌∷◌, length, Option, None, Some, option_map}
use Rattle.nx_base.specs.declared.name.Name.{Name}
use Rattle.rng_core.specs.Patterns.{Pattern, Definition}
use Rattle.rng_kept.specs.Needed.{content_names, front_names}
use Rattle.rng_live.specs.Order.{in_order}
use Rattle.deriv_nodes.specs.Numbers.{at}
use Rattle.deriv_pool.specs.declared.kept_names.NeededThere.{NeededThere}

-- up to an element of a name in what a pattern matches, or, without one, up to the end of it
abbrev pub view_names : List Definition → Option Name → Pattern → Option (List Name)
view_names g (Some m) p = front_names g m p
view_names g None p = content_names g p

-- a list with its names in order and each once
abbrev pub ordered : Option (List Name) → Option (List Name)
ordered names = option_map in_order names

pub record IsKept (g : List Definition) (nodes : List Pattern) (p : ℕ) (skip : Option Name) (names : Option (List Name)) : Type 0 where
  pub node : p < length nodes
  pub are : names ≡ ordered (view_names g skip (at nodes p))

abbrev pub AreKept : List Definition → List Pattern → List NeededThere → Type 0
AreKept g nodes [] = Unit {0}
AreKept g nodes (e ∷ es) = IsKept g nodes e.node e.skip e.names × AreKept g nodes es
