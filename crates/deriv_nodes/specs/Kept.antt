-- What opens at nodes by whatever name, as far as it is kept.
use Rattle.std.specs.Prelude.{ℕ, ◌<◌, List, [], ◌∷◌, length}
use Rattle.rng_core.specs.Patterns.{Pattern}
use Rattle.deriv_nodes.specs.declared.kept_openings.OpenedNode.{OpenedNode}
use Rattle.deriv_nodes.specs.declared.leaf.Leaf.{Leaf}
use Rattle.deriv_nodes.specs.declared.openings.Open.{Open}
use Rattle.deriv_nodes.specs.declared.openings.Wanted.TheVariants as wanted
use Rattle.deriv_nodes.specs.declared.shape.Shape.{Shape}
use Rattle.deriv_nodes.specs.Numbers.{at}
use Rattle.deriv_nodes.specs.Opened.{AreOpened}
use Rattle.deriv_nodes.specs.Reading.{patterns_of, IsTable}
use Rattle.deriv_nodes.specs.Wanted.{opens_by, reference_opens}

-- a node, and what opens there
pub record IsKept (nodes : List Pattern) (p : ℕ) (os : List Open) : Type 0 where
  pub node : p < length nodes
  pub opened : AreOpened nodes (opens_by (reference_opens wanted.Any) (at nodes p)) os

abbrev pub AreKept : List Pattern → List OpenedNode → Type 0
AreKept nodes [] = Unit {0}
AreKept nodes (f ∷ fs) = IsKept nodes f.node f.opened.items × AreKept nodes fs

-- nodes that are put together right, with what is kept of them
pub record IsTableWithKept (leaves : List Leaf) (shapes : List Shape) (entries : List OpenedNode) : Type 0 where
  pub table : IsTable leaves shapes
  pub kept : AreKept (patterns_of leaves shapes) entries
