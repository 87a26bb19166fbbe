-- How large the forms of a schema are, by its nodes.
use Rattle.std.specs.Prelude.{◌≡◌, ℕ, ◌+◌, ◌<◌, ◌≤◌, ◌⊎◌, List, sum_by, slice_get, Option, Some, Result, Ok, Err}
use Rattle.nx_base.specs.declared.cause.Cause.TheVariants.{TooLarge}
use Rattle.rng_core.specs.Names.{Class, any_name}
use Rattle.rng_simplify.specs.declared.fault.SchemaFault.{SchemaFault}
use Rattle.rng_simplify.specs.declared.fault.SchemaFault.TheVariants as fault
use Rattle.rng_simplify.specs.declared.form.Forms.{Forms}
use Rattle.rng_simplify.specs.Broken.{node_limit, depth_limit}
use Rattle.rng_simplify.specs.Cells.{Cell}
use Rattle.rng_simplify.specs.Cells as cell
use Rattle.rng_simplify.specs.CellMeanings.{IsCell}
use Rattle.rng_simplify.specs.NodeForms.{form_of, IsKnown}
use Rattle.rng_simplify.specs.Forms.{Value, nodes, depth}

-- the content of an element
abbrev pub content_in : Option Cell → ℕ
content_in (Some (cell.element class part)) = part
content_in _ = 0

-- and its class
abbrev pub class_of_element : Option Cell → Class
class_of_element (Some (cell.element class part)) = class
class_of_element _ = any_name

abbrev pub content_of : List Cell → ℕ → ℕ
content_of cells i = content_in (slice_get cells i)

-- a node is an element
pub record IsElement (cells : List Cell) (i : ℕ) : Type 0 where
  pub class : Class
  pub part : ℕ
  pub is_cell : IsCell cells i (cell.element class part)

-- these nodes are elements whose contents have forms
pub record AreElements (cells : List Cell) (forms : Forms) (elements : List ℕ) : Type 0 where
  pub each_is : (place i : ℕ) → slice_get elements place ≡ Some i → IsElement cells i
  pub each_known : (place i : ℕ) → slice_get elements place ≡ Some i → IsKnown forms.shapes forms.of.items (content_of cells i)

-- all nodes of the form of one and of those of elements' contents
abbrev pub nodes_of_all : List Cell → (ℕ → List Value) → Forms → ℕ → List ℕ → ℕ
nodes_of_all cells taken forms root elements = nodes (form_of cells taken forms root)
    + sum_by (λ i. nodes (form_of cells taken forms (content_of cells i))) elements

-- they are within the limits
pub record AreWithinLimits (cells : List Cell) (taken : ℕ → List Value) (forms : Forms) (root : ℕ) (elements : List ℕ) : Type 0 where
  pub few : nodes_of_all cells taken forms root elements ≤ node_limit
  pub shallow : depth (form_of cells taken forms root) ≤ depth_limit
  pub each_shallow : (place i : ℕ) → slice_get elements place ≡ Some i →
      depth (form_of cells taken forms (content_of cells i)) ≤ depth_limit

-- or not
abbrev pub AreBeyondLimits : List Cell → (ℕ → List Value) → Forms → ℕ → List ℕ → Type 0
AreBeyondLimits cells taken forms root elements =
    (node_limit < nodes_of_all cells taken forms root elements)
    ⊎ (depth_limit < depth (form_of cells taken forms root))
    ⊎ ((place i : ℕ) × (slice_get elements place ≡ Some i) × (depth_limit < depth (form_of cells taken forms (content_of cells i))))

abbrev pub IsWithinLimits : List Cell → Forms → ℕ → List ℕ → Result (Unit {0}) SchemaFault → Type 0
IsWithinLimits cells forms root elements (Ok done) = (taken : ℕ → List Value) → AreWithinLimits cells taken forms root elements
IsWithinLimits cells forms root elements (Err (fault.Unreadable TooLarge)) = (taken : ℕ → List Value) →
    AreBeyondLimits cells taken forms root elements
IsWithinLimits cells forms root elements (Err other) = ⊥

-- a form is counted behind so many nodes
pub record IsCounted (cells : List Cell) (taken : ℕ → List Value) (forms : Forms) (node before count : ℕ) : Type 0 where
  pub count_is : count ≡ before + nodes (form_of cells taken forms node)
  pub few : count ≤ node_limit
  pub shallow : depth (form_of cells taken forms node) ≤ depth_limit

abbrev pub Counts : Forms → ℕ → ℕ → Result ℕ SchemaFault → Type 0
Counts forms node before (Ok count) = (cells : List Cell) (taken : ℕ → List Value) → IsCounted cells taken forms node before count
Counts forms node before (Err (fault.Unreadable TooLarge)) = (cells : List Cell) (taken : ℕ → List Value) →
    (node_limit < before + nodes (form_of cells taken forms node)) ⊎ (depth_limit < depth (form_of cells taken forms node))
Counts forms node before (Err other) = ⊥
