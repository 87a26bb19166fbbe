-- What is known while references are resolved: the nodes behind some number are taken, each with what stands around it.
use Rattle.std.specs.Prelude.{◌≡◌, ◌≢◌, ℕ, ◌<◌, ◌≤◌, Bool, true, false, List, [], ◌∷◌, ◌++◌, length, set, replicate}
use Rattle.std.specs.Prelude.{slice_get, slice_index_or, Option, Some, None, Result, Ok, Err, Contains}
use Rattle.std.specs.Prelude.{Vec}
use Rattle.std.specs.List.{list_any}
use Rattle.std.specs.declared.alloc.Global.{Global}
use Rattle.rng_core.specs.Names.{Class}
use Rattle.nx_base.specs.declared.cause.Cause.TheVariants as cause
use Rattle.rnc_parse.specs.declared.surface.Defined.{Defined}
use Rattle.rnc_parse.specs.declared.surface.Defined.TheVariants as defined
use Rattle.rnc_parse.specs.declared.surface.Combine.{Combine}
use Rattle.rnc_parse.specs.declared.surface.Combine.TheVariants as combine
use Rattle.rng_simplify.specs.declared.fault.SchemaFault.{SchemaFault}
use Rattle.rng_simplify.specs.declared.fault.SchemaFault.TheVariants.{NoMemory, Unreadable}
use Rattle.rng_simplify.specs.declared.names.Names.{Names}
use Rattle.rng_simplify.specs.declared.node.Clause.{Clause}
use Rattle.rng_simplify.specs.declared.resolve.Combined.{Combined}
use Rattle.rng_simplify.specs.declared.resolve.Table.{Table}
use Rattle.rng_simplify.specs.declared.resolve.Resolver.{Resolver}
use Rattle.rng_simplify.specs.declared.resolve.Scope.{Scope}
use Rattle.rng_simplify.specs.declared.resolve.Scope.TheVariants.{Nowhere, Outside, In}
use Rattle.rng_simplify.specs.declared.resolve.Target.{Target}
use Rattle.rng_simplify.specs.declared.resolve.Target.TheVariants.{Nothing, Definitions, Element}
use Rattle.rng_simplify.specs.Broken.{clash, is_alone}
use Rattle.rng_simplify.specs.Cells.{Cell}
use Rattle.rng_simplify.specs.Cells as cell
use Rattle.rng_simplify.specs.CellMeanings.{IsCell}
use Rattle.rng_simplify.specs.Forms.{combine_of}
use Rattle.rng_simplify.specs.NameTables.{kept_named, kept_for}
use Rattle.rng_simplify.specs.NodePlaces.{bodies_of, inner_nodes, Stands, IsStanding}
use Rattle.rng_simplify.specs.ResolvedNodes.{combined_number, element_number, IsToDefinitions, IsToElement}
use Rattle.rng_simplify.specs.ResolvedNodes.{clauses_of, combines_of, IsCombined, IsCombinedIn, IsCombinedOutside, IsOfGrammar}

-- ---- combined definitions

-- how definitions are combined is what these say
pub record HasSigns (combines : List Combine) (combination : Combined) : Type 0 where
  pub combine_is : combination.combine ≡ combine_of combines
  pub alone_is : combination.has_alone ≡ list_any is_alone combines
  pub no_clash : clash combines ≡ false

-- what two say together, if they don't say it in two ways
abbrev pub both_say : Combine → Combine → Option Combine
both_say before combine.Alone = Some before
both_say combine.Alone combine.Choice = Some combine.Choice
both_say combine.Alone combine.Interleave = Some combine.Interleave
both_say combine.Choice combine.Choice = Some combine.Choice
both_say combine.Choice combine.Interleave = None
both_say combine.Interleave combine.Choice = None
both_say combine.Interleave combine.Interleave = Some combine.Interleave

-- one more definition behind those that are combined
abbrev pub AddsTo : {A : Type 0} → Combine → ℕ → Combined → Combined → Result A SchemaFault → Type 0
AddsTo combine body old new (Ok done) =
    (new.bodies.items ≡ old.bodies.items ++ body ∷ []) × ((combines : List Combine) → HasSigns combines old →
    HasSigns (combines ++ combine ∷ []) new)
AddsTo combine body old new (Err NoMemory) = Unit {0}
AddsTo combine body old new (Err (Unreadable cause.CombineClash)) = (combines : List Combine) → HasSigns combines old →
    clash (combines ++ combine ∷ []) ≡ true
AddsTo combine body old new (Err other) = ⊥

-- these definitions of a name, combined
pub record IsCombinedOf (clauses : List Clause) (combination : Combined) : Type 0 where
  pub some : clauses ≢ []
  pub bodies_are : combination.bodies.items ≡ bodies_of clauses
  pub signs : HasSigns (combines_of clauses) combination

-- the combined definitions of a name are behind others
abbrev pub IsGatheredAs : ℕ → List Clause → List Combined → Defined → Option ℕ → Type 0
IsGatheredAs first clauses combined name None = clauses_of name clauses ≡ []
IsGatheredAs first clauses combined name (Some number) =
    (combination : Combined) × (first ≤ number) × (slice_get combined number ≡ Some combination)
    × IsCombinedOf (clauses_of name clauses) combination

-- the names that are defined have their combined definitions, which are those from a number on
pub record IsGathered (first : ℕ) (clauses : List Clause) (names : Names ℕ) (combined : List Combined) : Type 0 where
  pub behind : first ≤ length combined
  pub gathered : (name : Defined) → IsGatheredAs first clauses combined name (kept_for names name)
  pub apart : (name other : Defined) (number : ℕ) → kept_for names name ≡ Some number → kept_for names other ≡ Some number → name ≡ other
  pub each : (number : ℕ) → first ≤ number → number < length combined → (name : Defined) × (kept_for names name ≡ Some number)

-- combined definitions before this number are as they were
abbrev pub KeepsFirst : ℕ → List Combined → List Combined → Type 0
KeepsFirst first old new = (number : ℕ) → number < first → slice_get new number ≡ slice_get old number

-- one more definition is gathered
abbrev pub GathersOne : {A : Type 0} → ℕ → List Clause → Clause → List Combined → Names ℕ → List Combined → Result A SchemaFault → Type 0
GathersOne first clauses clause old names new (Ok done) = IsGathered first (clauses ++ clause ∷ []) names new × KeepsFirst first old new
GathersOne first clauses clause old names new (Err NoMemory) = Unit {0}
GathersOne first clauses clause old names new (Err (Unreadable cause.CombineClash))
    = clash (combines_of (clauses_of clause.name (clauses ++ clause ∷ []))) ≡ true
GathersOne first clauses clause old names new (Err other) = ⊥

-- definitions are gathered behind the combined ones that there are
abbrev pub Gathers : List Clause → List Combined → List Combined → Result (Names ℕ) SchemaFault → Type 0
Gathers clauses old new (Ok names) = IsGathered (length old) clauses names new × KeepsFirst (length old) old new
Gathers clauses old new (Err NoMemory) = Unit {0}
Gathers clauses old new (Err (Unreadable cause.CombineClash)) = (name : Defined) × (clash (combines_of (clauses_of name clauses)) ≡ true)
Gathers clauses old new (Err other) = ⊥

-- ---- what is found so far

pub record Findings : Type 0 where
  pub tables : List Table
  pub scopes : List Scope
  pub links : List Target
  pub combined : List Combined

abbrev pub findings_of : Resolver → Findings
findings_of resolver = record {
  tables = resolver.tables.items;
  scopes = resolver.scopes.items;
  links = resolver.links.items;
  combined =
      resolver.combined.items;
}

-- nothing is known but that the root stands outside of all grammars
abbrev pub findings_at_first : ℕ → ℕ → Findings
findings_at_first count root = record {
  tables = [];
  scopes = set (replicate count Nowhere)
      root Outside;
  links = replicate count Nothing;
  combined = [];
}

-- these nodes have this scope
abbrev pub given : List ℕ → Scope → List Scope → List Scope
given [] scope scopes = scopes
given (i ∷ more) scope scopes = given more scope (set scopes i scope)

abbrev pub with_given : List ℕ → Scope → Findings → Findings
with_given nodes scope now = record now { scopes = given nodes scope now.scopes }

abbrev pub with_link : ℕ → Target → Findings → Findings
with_link i link now = record now { links = set now.links i link }

-- the grammar around a grammar
abbrev pub outer_of : Option Table → Scope
outer_of (Some table) = table.outer
outer_of None = Outside

abbrev pub outer_in : List Table → Scope → Scope
outer_in tables Nowhere = Outside
outer_in tables Outside = Outside
outer_in tables (In k) = outer_of (slice_get tables k)

-- the combined definitions of a name in a grammar
abbrev pub combined_of_table : List ℕ → Option Table → Option ℕ
combined_of_table name (Some table) = kept_named table.combined name
combined_of_table name None = None

abbrev pub combined_in : List Table → Scope → List ℕ → Option ℕ
combined_in tables Nowhere name = None
combined_in tables Outside name = None
combined_in tables (In k) name = combined_of_table name (slice_get tables k)

-- a reference is linked to these combined definitions
abbrev pub Links : {A : Type 0} → ℕ → Option ℕ → Findings → Findings → Result A SchemaFault → Type 0
Links i (Some number) old new (Ok done) = new ≡ with_link i (Definitions number) old
Links i None old new (Err (Unreadable cause.NoDefinition)) = Unit {0}
Links i number old new result = ⊥

-- a grammar is taken, of which these are the names
pub record HasTable (i : ℕ) (outer : Scope) (clauses : List Clause) (old new : Findings) : Type 0 where
  pub names : Names ℕ
  pub start : ℕ
  pub gathered : IsGathered (length old.combined) clauses names new.combined
  pub kept : KeepsFirst (length old.combined) old.combined new.combined
  pub start_is : kept_for names defined.Start ≡ Some start
  pub tables_are : new.tables ≡ old.tables ++ record { outer = outer; combined = names } ∷ []
  pub scopes_are : new.scopes ≡ given (bodies_of clauses) (In (length old.tables)) old.scopes
  pub links_are : new.links ≡ set old.links i (Definitions start)

abbrev pub TakesGrammar : {A : Type 0} → ℕ → Scope → List Clause → Findings → Findings → Result A SchemaFault → Type 0
TakesGrammar i outer clauses old new (Ok done) = HasTable i outer clauses old new
TakesGrammar i outer clauses old new (Err NoMemory) = Unit {0}
TakesGrammar i outer clauses old new (Err (Unreadable cause.NoStart)) = clauses_of defined.Start clauses ≡ []
TakesGrammar i outer clauses old new (Err (Unreadable cause.CombineClash)) = (name : Defined)
    × (clash (combines_of (clauses_of name clauses)) ≡ true)
TakesGrammar i outer clauses old new (Err other) = ⊥

-- a node that stands in the schema is taken, where all that comes behind is
abbrev pub TakesCell : {A : Type 0} → ℕ → Scope → Cell → Findings → Findings → Result A SchemaFault → Type 0
TakesCell i scope (cell.ref name) old new result = Links i (combined_in old.tables scope name) old new result
TakesCell i scope (cell.parent_ref name) old new result = Links i (combined_in old.tables (outer_in old.tables scope) name) old new result
TakesCell i scope (cell.grammar clauses) old new result = TakesGrammar i scope clauses old new result
TakesCell i scope c old new (Ok done) = new ≡ with_given (inner_nodes c) scope old
TakesCell i scope c old new (Err other) = ⊥

-- ---- what it says

-- the names of a grammar's table have the combined definitions of what it defines
abbrev pub IsKept : List Cell → List Combined → ℕ → List Clause → Defined → Option ℕ → Type 0
IsKept cells combined grammar clauses name None = clauses_of name clauses ≡ []
IsKept cells combined grammar clauses name (Some number) = IsCombined cells combined grammar name number

pub record IsTable (cells : List Cell) (combined : List Combined) (grammar : ℕ) (names : Names ℕ) : Type 0 where
  pub clauses : List Clause
  pub is_grammar : IsCell cells grammar (cell.grammar clauses)
  pub kept : (name : Defined) → IsKept cells combined grammar clauses name (kept_for names name)

-- a scope is these grammars
pub data IsScope (cells : List Cell) (combined : List Combined) (tables : List Table) : Scope → List ℕ → Type 0 where
  outside : IsScope cells combined tables Outside []
  inside : {k grammar : ℕ} {table : Table} {outers : List ℕ} →
      slice_get tables k ≡ Some table → IsTable cells combined grammar table.combined →
      IsScope cells combined tables table.outer outers → IsScope cells combined tables (In k) (grammar ∷ outers)

-- the node stands in the schema, in the grammars of the scope
pub record IsPosted (cells : List Cell) (root : ℕ) (now : Findings) (scope : Scope) (i : ℕ) : Type 0 where
  pub outers : List ℕ
  pub stands : Stands cells root outers i
  pub is_scope : IsScope cells now.combined now.tables scope outers

-- what is known of a node that was taken
abbrev pub IsTaken : List Cell → List Combined → List ℕ → ℕ → Target → Cell → Type 0
IsTaken cells combined outers i target (cell.ref name) =
    IsToDefinitions target × IsCombinedIn cells combined outers (defined.Name name) (combined_number target)
IsTaken cells combined outers i target (cell.parent_ref name) =
    IsToDefinitions target × IsCombinedOutside cells combined outers (defined.Name name) (combined_number target)
IsTaken cells combined outers i target (cell.grammar clauses) =
    IsToDefinitions target × IsCombined cells combined i defined.Start (combined_number target)
    × ((name : Defined) → clash (combines_of (clauses_of name clauses)) ≡ false)
IsTaken cells combined outers i target c = Unit {0}

-- the nodes from a number on are taken
pub record IsMidway (cells : List Cell) (root from : ℕ) (now : Findings) : Type 0 where
  pub all_scopes : length now.scopes ≡ length cells
  pub all_links : length now.links ≡ length cells
  -- a scope says where a node stands
  pub posted : (i : ℕ) → slice_index_or now.scopes i Nowhere ≢ Nowhere → IsPosted cells root now (slice_index_or now.scopes i Nowhere) i
  -- what stands directly in those that are taken has its scope, and so has the root
  pub root_known : slice_index_or now.scopes root Nowhere ≢ Nowhere
  pub inner_known : (i j : ℕ) (c : Cell) → from ≤ i → IsStanding cells root i → IsCell cells i c → Contains (inner_nodes c) j →
      slice_index_or now.scopes j Nowhere ≢ Nowhere
  pub taken : (outers : List ℕ) (i : ℕ) (c : Cell) → from ≤ i → Stands cells root outers i → IsCell cells i c →
      IsTaken cells now.combined outers i (slice_index_or now.links i Nothing) c
  pub each_combined : (number : ℕ) → number < length now.combined → IsOfGrammar cells root now.combined number

-- ---- the numbers of elements

-- the nodes' links, and the elements' nodes
pub record Numbering : Type 0 where
  pub links : List Target
  pub elements : List ℕ

abbrev pub numbering_of : Vec Target Global → Vec ℕ Global → Numbering
numbering_of links elements = record { links = links.items; elements = elements.items }

-- an element has the next number
abbrev pub with_number : ℕ → Cell → Numbering → Numbering
with_number i (cell.element class part) now = record { links = set now.links i (Element (length now.elements)); elements = now.elements ++ i ∷ [] }
with_number i c now = now

-- if it stands somewhere
abbrev pub with_numbered : ℕ → Scope → Cell → Numbering → Numbering
with_numbered i Nowhere c now = now
with_numbered i Outside c now = with_number i c now
with_numbered i (In k) c now = with_number i c now

abbrev pub is_element : Cell → Bool
is_element (cell.element class part) = true
is_element c = false

-- an element with a number
pub record IsElementOf (cells : List Cell) (scopes : List Scope) (links : List Target) (number i : ℕ) : Type 0 where
  pub class : Class
  pub part : ℕ
  pub is_element : IsCell cells i (cell.element class part)
  pub stands : slice_index_or scopes i Nowhere ≢ Nowhere
  pub linked : element_number (slice_index_or links i Nothing) ≡ number

-- the elements among the first nodes are numbered, and all other links are as they were
pub record AreNumbered (cells : List Cell) (scopes : List Scope) (upto : ℕ) (old : List Target) (new : Numbering) : Type 0 where
  pub all_links : length new.links ≡ length old
  pub other_links : (i : ℕ) (c : Cell) → IsCell cells i c → is_element c ≡ false → slice_index_or new.links i Nothing ≡
      slice_index_or old i Nothing
  pub numbered : (i : ℕ) (class : Class) (part : ℕ) → i < upto → slice_index_or scopes i Nowhere ≢ Nowhere →
      IsCell cells i (cell.element class part) → slice_get new.elements (element_number (slice_index_or new.links i Nothing)) ≡ Some i
  pub linked : (i : ℕ) (class : Class) (part : ℕ) → i < upto → slice_index_or scopes i Nowhere ≢ Nowhere →
      IsCell cells i (cell.element class part) → IsToElement (slice_index_or new.links i Nothing)
  pub each_number : (number i : ℕ) → slice_get new.elements number ≡ Some i → (i < upto) × IsElementOf cells scopes new.links number i
