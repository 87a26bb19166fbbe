-- What is known of the nodes of a schema once its references are resolved, and an order of them.
use Rattle.std.specs.Prelude.{◌≡◌, ◌≢◌, ◌↔◌, ℕ, ◌+◌, ◌-◌, ◌<◌, ◌==◌, ◌⊎◌, false, List, [], ◌∷◌, length, map, filter}
use Rattle.std.specs.Prelude.{take, slice_get, slice_index_or, Option, Some, None, Contains}
use Rattle.std.specs.List.{IsDistinct}
use Rattle.rnc_parse.specs.declared.surface.Defined.{Defined}
use Rattle.rnc_parse.specs.declared.surface.Defined.TheVariants as defined
use Rattle.rnc_parse.specs.declared.surface.Combine.{Combine}
use Rattle.rng_core.specs.Names.{Class}
use Rattle.rng_simplify.specs.declared.node.Clause.{Clause}
use Rattle.rng_simplify.specs.declared.resolve.Combined.{Combined}
use Rattle.rng_simplify.specs.declared.resolve.Resolved.{Resolved}
use Rattle.rng_simplify.specs.declared.resolve.Scope.{Scope}
use Rattle.rng_simplify.specs.declared.resolve.Scope.TheVariants.{Nowhere}
use Rattle.rng_simplify.specs.declared.resolve.Target.{Target}
use Rattle.rng_simplify.specs.declared.resolve.Target.TheVariants.{Nothing, Definitions, Element}
use Rattle.rng_simplify.specs.Broken.{clash}
use Rattle.rng_simplify.specs.Cells.{Cell}
use Rattle.rng_simplify.specs.Cells as cell
use Rattle.rng_simplify.specs.Composed.{same_defined}
use Rattle.rng_simplify.specs.CellMeanings.{IsCell}
use Rattle.rng_simplify.specs.Forms.{combine_of}
use Rattle.rng_simplify.specs.NodePlaces.{bodies_of, Stands, IsStanding}

-- in which grammar a node stands
abbrev pub scope_at : Resolved → ℕ → Scope
scope_at found i = slice_index_or found.scopes.items i Nowhere

-- combined definitions to which something leads, and the element whose definition it leads to. Of what leads elsewhere nobody asks it
abbrev pub combined_number : Target → ℕ
combined_number Nothing = 0
combined_number (Definitions number) = number
combined_number (Element number) = 0

abbrev pub element_number : Target → ℕ
element_number Nothing = 0
element_number (Definitions number) = 0
element_number (Element number) = number

-- it leads to combined definitions; to an element's own definition
abbrev pub IsToDefinitions : Target → Type 0
IsToDefinitions Nothing = ⊥
IsToDefinitions (Definitions number) = Unit {0}
IsToDefinitions (Element number) = ⊥

abbrev pub IsToElement : Target → Type 0
IsToElement Nothing = ⊥
IsToElement (Definitions number) = ⊥
IsToElement (Element number) = Unit {0}

-- the target is of the kind that a node with this cell has
abbrev pub IsLinkedAs : Cell → Target → Type 0
IsLinkedAs (cell.element class part) target = IsToElement target
IsLinkedAs (cell.ref name) target = IsToDefinitions target
IsLinkedAs (cell.parent_ref name) target = IsToDefinitions target
IsLinkedAs (cell.grammar clauses) target = IsToDefinitions target
IsLinkedAs c target = Unit {0}

abbrev pub target_at : Resolved → ℕ → Target
target_at found i = slice_index_or found.links.items i Nothing

abbrev pub link_at : Resolved → ℕ → ℕ
link_at found i = combined_number (target_at found i)

abbrev pub number_at : Resolved → ℕ → ℕ
number_at found i = element_number (target_at found i)

-- ---- combined definitions

-- the definitions of the name, in order
abbrev pub clauses_of : Defined → List Clause → List Clause
clauses_of name clauses = filter (λ (clause : Clause). same_defined name clause.name) clauses

-- how they are combined
abbrev pub combines_of : List Clause → List Combine
combines_of clauses = map (λ (clause : Clause). clause.combine) clauses

-- the combined definitions of this number are those of the name in the grammar of this node
pub record IsCombined (cells : List Cell) (combined : List Combined) (grammar : ℕ) (name : Defined) (number : ℕ) : Type 0 where
  pub clauses : List Clause
  pub is_grammar : IsCell cells grammar (cell.grammar clauses)
  pub is_defined : clauses_of name clauses ≢ []
  pub combination : Combined
  pub there : slice_get combined number ≡ Some combination
  pub bodies_are : combination.bodies.items ≡ bodies_of (clauses_of name clauses)
  pub combine_is : combination.combine ≡ combine_of (combines_of (clauses_of name clauses))

-- it is that of the innermost of these grammars, or of the one around that
abbrev pub IsCombinedIn : List Cell → List Combined → List ℕ → Defined → ℕ → Type 0
IsCombinedIn cells combined [] name number = ⊥
IsCombinedIn cells combined (grammar ∷ outers) name number = IsCombined cells combined grammar name number

abbrev pub IsCombinedOutside : List Cell → List Combined → List ℕ → Defined → ℕ → Type 0
IsCombinedOutside cells combined [] name number = ⊥
IsCombinedOutside cells combined (inner ∷ outers) name number = IsCombinedIn cells combined outers name number

-- combined definitions are those of some name in some grammar that stands in the schema
pub record IsOfGrammar (cells : List Cell) (root : ℕ) (combined : List Combined) (number : ℕ) : Type 0 where
  pub grammar : ℕ
  pub name : Defined
  pub stands : IsStanding cells root grammar
  pub is_combined : IsCombined cells combined grammar name number

-- this node is an element that stands in the schema, of this number
pub record IsNumbered (cells : List Cell) (root : ℕ) (found : Resolved) (number i : ℕ) : Type 0 where
  pub class : Class
  pub part : ℕ
  pub is_element : IsCell cells i (cell.element class part)
  pub stands : IsStanding cells root i
  pub linked : number_at found i ≡ number

-- references are resolved, and elements are numbered
pub record IsResolved (cells : List Cell) (root : ℕ) (found : Resolved) : Type 0 where
  pub all_scopes : length found.scopes.items ≡ length cells
  pub all_links : length found.links.items ≡ length cells
  -- which nodes stand in the schema
  pub standing : (i : ℕ) → (scope_at found i ≢ Nowhere) ↔ IsStanding cells root i
  pub linked : (i : ℕ) (c : Cell) → IsStanding cells root i → IsCell cells i c → IsLinkedAs c (target_at found i)
  -- combined definitions
  pub ref_combined : (outers : List ℕ) (i : ℕ) (name : List ℕ) → Stands cells root outers i → IsCell cells i (cell.ref name) →
      IsCombinedIn cells found.combined.items outers (defined.Name name) (link_at found i)
  pub parent_ref_combined : (outers : List ℕ) (i : ℕ) (name : List ℕ) → Stands cells root outers i → IsCell cells i (cell.parent_ref name) →
      IsCombinedOutside cells found.combined.items outers (defined.Name name) (link_at found i)
  pub start_combined : (i : ℕ) (clauses : List Clause) → IsStanding cells root i → IsCell cells i (cell.grammar clauses) →
      IsCombined cells found.combined.items i defined.Start (link_at found i)
  pub each_combined : (number : ℕ) → number < length found.combined.items → IsOfGrammar cells root found.combined.items number
  pub no_clash : (i : ℕ) (clauses : List Clause) (name : Defined) → IsStanding cells root i → IsCell cells i (cell.grammar clauses) →
      clash (combines_of (clauses_of name clauses)) ≡ false
  -- elements
  pub numbered : (i : ℕ) (class : Class) (part : ℕ) → IsStanding cells root i → IsCell cells i (cell.element class part) →
      slice_get found.elements.items (number_at found i) ≡ Some i
  pub each_number : (number i : ℕ) → slice_get found.elements.items number ≡ Some i → IsNumbered cells root found number i

-- ---- an order, in which combined definitions of number n have the place n behind the nodes

-- what a node leads to: its parts, or combined definitions
abbrev pub cell_leads : ℕ → ℕ → Cell → List ℕ
cell_leads count link (cell.element class part) = []
cell_leads count link (cell.attribute class part) = part ∷ []
cell_leads count link (cell.listed part) = part ∷ []
cell_leads count link (cell.ref name) = (count + link) ∷ []
cell_leads count link (cell.parent_ref name) = (count + link) ∷ []
cell_leads count link cell.empty = []
cell_leads count link cell.any_text = []
cell_leads count link cell.not_allowed = []
cell_leads count link (cell.value type text) = []
cell_leads count link (cell.typed type params part) = part ∷ []
cell_leads count link (cell.grammar clauses) = (count + link) ∷ []
cell_leads count link (cell.one_or_more part) = part ∷ []
cell_leads count link (cell.joined sign first second) = first ∷ second ∷ []

abbrev pub combined_leads : Option Combined → List ℕ
combined_leads (Some combination) = combination.bodies.items
combined_leads None = []

abbrev pub leads_if : List Cell → Resolved → ℕ → Option Cell → List ℕ
leads_if cells found i (Some c) = cell_leads (length cells) (link_at found i) c
leads_if cells found i None = combined_leads (slice_get found.combined.items (i - length cells))

-- what a node or combined definitions lead to
abbrev pub leads : List Cell → Resolved → ℕ → List ℕ
leads cells found i = leads_if cells found i (slice_get cells i)

-- combined definitions by their place behind the nodes
abbrev pub IsCombinedNumber : List Cell → Resolved → ℕ → Type 0
IsCombinedNumber cells found i = (number : ℕ) × (number < length found.combined.items) × (i ≡ length cells + number)

-- the nodes that stand in the schema and the combined definitions are in order, each once, and behind all that it leads to
pub record IsOrdered (cells : List Cell) (root : ℕ) (found : Resolved) (order : List ℕ) : Type 0 where
  pub each_node : (i : ℕ) → IsStanding cells root i → Contains order i
  pub each_combined : (number : ℕ) → number < length found.combined.items → Contains order (length cells + number)
  pub nothing_else : (i : ℕ) → Contains order i → IsStanding cells root i ⊎ IsCombinedNumber cells found i
  pub distinct : IsDistinct (λ a b. a == b) order
  pub behind : (k i j : ℕ) → slice_get order k ≡ Some i → Contains (leads cells found i) j → Contains (take k order) j
