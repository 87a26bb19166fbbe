-- Which nodes stand in a schema, and in which grammars.
use Rattle.std.specs.Prelude.{◌≡◌, ℕ, ◌<◌, ◌==◌, List, [], ◌∷◌, length, map, Contains}
use Rattle.std.specs.List.{IsDistinct}
use Rattle.rng_core.specs.Names.{Class}
use Rattle.rng_simplify.specs.declared.node.Clause.{Clause}
use Rattle.rng_simplify.specs.Cells.{Cell}
use Rattle.rng_simplify.specs.Cells as cell
use Rattle.rng_simplify.specs.Composed.{Composed, Clauses}
use Rattle.rng_simplify.specs.CellMeanings.{IsCell, Denotes, DenoteAll}
use Rattle.rng_simplify.specs.Places.{place, Occurs}

-- the nodes of which a node is made; an element and a grammar are made of none
abbrev pub cell_parts : Cell → List ℕ
cell_parts (cell.element class part) = []
cell_parts (cell.attribute class part) = part ∷ []
cell_parts (cell.listed part) = part ∷ []
cell_parts (cell.ref name) = []
cell_parts (cell.parent_ref name) = []
cell_parts cell.empty = []
cell_parts cell.any_text = []
cell_parts cell.not_allowed = []
cell_parts (cell.value type text) = []
cell_parts (cell.typed type params part) = part ∷ []
cell_parts (cell.grammar clauses) = []
cell_parts (cell.one_or_more part) = part ∷ []
cell_parts (cell.joined sign first second) = first ∷ second ∷ []

-- what stands in definitions
abbrev pub bodies_of : List Clause → List ℕ
bodies_of clauses = map (λ (clause : Clause). clause.body) clauses

-- the nodes that stand directly in a node: its parts, an element's content, a grammar's definitions
abbrev pub inner_nodes : Cell → List ℕ
inner_nodes (cell.element class part) = part ∷ []
inner_nodes (cell.attribute class part) = part ∷ []
inner_nodes (cell.listed part) = part ∷ []
inner_nodes (cell.ref name) = []
inner_nodes (cell.parent_ref name) = []
inner_nodes cell.empty = []
inner_nodes cell.any_text = []
inner_nodes cell.not_allowed = []
inner_nodes (cell.value type text) = []
inner_nodes (cell.typed type params part) = part ∷ []
inner_nodes (cell.grammar clauses) = bodies_of clauses
inner_nodes (cell.one_or_more part) = part ∷ []
inner_nodes (cell.joined sign first second) = first ∷ second ∷ []

-- what composing gives: a node stands in one that comes behind it, in no other, and there once
pub record AreWellFormed (cells : List Cell) (root : ℕ) : Type 0 where
  pub root_within : root < length cells
  pub inner_below : (i j : ℕ) (c : Cell) → IsCell cells i c → Contains (inner_nodes c) j → j < i
  pub one_outer : (i k j : ℕ) (c d : Cell) → IsCell cells i c → IsCell cells k d → Contains (inner_nodes c) j →
      Contains (inner_nodes d) j → i ≡ k
  pub once : (i : ℕ) (c : Cell) → IsCell cells i c → IsDistinct (λ a b. a == b) (inner_nodes c)

-- a node stands in the schema, in the grammars of these nodes, the innermost first
pub data Stands (cells : List Cell) (root : ℕ) : List ℕ → ℕ → Type 0 where
  the_root : Stands cells root [] root
  a_part : {outers : List ℕ} {i j : ℕ} {c : Cell} → Stands cells root outers i → IsCell cells i c → Contains (cell_parts c) j →
      Stands cells root outers j
  a_content : {outers : List ℕ} {i j : ℕ} {class : Class} → Stands cells root outers i → IsCell cells i (cell.element class j) →
      Stands cells root outers j
  a_definition : {outers : List ℕ} {i j : ℕ} {clauses : List Clause} → Stands cells root outers i →
      IsCell cells i (cell.grammar clauses) → Contains (bodies_of clauses) j → Stands cells root (i ∷ outers) j

-- it stands somewhere
abbrev pub IsStanding : List Cell → ℕ → ℕ → Type 0
IsStanding cells root i = (outers : List ℕ) × Stands cells root outers i

-- the grammars of these nodes are these definitions
pub data AreScopes (cells : List Cell) (number : ℕ → ℕ) : List ℕ → List Clauses → Type 0 where
  no_scopes : AreScopes cells number [] []
  further_scope : {i : ℕ} {clauses : List Clause} {all : Clauses} {outers : List ℕ} {scopes : List Clauses} →
      IsCell cells i (cell.grammar clauses) → DenoteAll cells number clauses all → AreScopes cells number outers scopes →
      AreScopes cells number (i ∷ outers) (all ∷ scopes)

-- the node of a pattern where it stands in the schema: they stand in the same grammars
pub record IsNodeOf (cells : List Cell) (root : ℕ) (number : ℕ →
    ℕ) (whole : Composed) (outers : List ℕ) (i : ℕ) (scopes : List Clauses) (p : Composed) : Type 0 where
  pub stands : Stands cells root outers i
  pub denotes : Denotes cells number i p
  pub are_scopes : AreScopes cells number outers scopes
  pub occurs : Occurs whole (place scopes p)
