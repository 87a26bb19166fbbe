-- Nodes of the program, without the memory that they stand in.
use Rattle.std.specs.Prelude.{ℕ, List}
use Rattle.rnc_parse.specs.declared.surface.TypeName.{TypeName}
use Rattle.rnc_parse.specs.declared.surface.Param.{Param}
use Rattle.rng_core.specs.Names.{Class}
use Rattle.rng_core.specs.Meaning.{class_of}
use Rattle.rng_simplify.specs.declared.node.Sign.{Sign}
use Rattle.rng_simplify.specs.declared.node.Clause.{Clause}
use Rattle.rng_simplify.specs.declared.node.Node.{Node}
use Rattle.rng_simplify.specs.declared.node.Node.TheVariants as node

pub data Cell : Type 0 where
  element : Class → ℕ → Cell
  attribute : Class → ℕ → Cell
  listed : ℕ → Cell
  ref : List ℕ → Cell
  parent_ref : List ℕ → Cell
  empty : Cell
  any_text : Cell
  not_allowed : Cell
  value : TypeName → List ℕ → Cell
  typed : TypeName → List Param → ℕ → Cell
  grammar : List Clause → Cell
  one_or_more : ℕ → Cell
  joined : Sign → ℕ → ℕ → Cell

abbrev pub cell_of : Node → Cell
cell_of (node.Element class part) = element (class_of class) part
cell_of (node.Attribute class part) = attribute (class_of class) part
cell_of (node.List part) = listed part
cell_of (node.Ref name) = ref name
cell_of (node.ParentRef name) = parent_ref name
cell_of node.Empty = empty
cell_of node.Text = any_text
cell_of node.NotAllowed = not_allowed
cell_of (node.Value type text) = value type text
cell_of (node.Typed type params part) = typed type params part
cell_of (node.Grammar clauses) = grammar clauses.items
cell_of (node.OneOrMore part) = one_or_more part
cell_of (node.Joined sign first second) = joined sign first second
