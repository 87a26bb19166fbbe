-- Patterns that spell out shapes, and the work that is left of one.
use Rattle.std.specs.Prelude.{◌≡◌, ℕ, ◌*◌, ◌<◌, ◌^◌, sum_by, List, [], ◌∷◌, ◌++◌, length, map, reverse, slice_get}
use Rattle.std.specs.Prelude.{slice_index, Option, Some, Result, Ok, Err}
use Rattle.rnc_parse.specs.declared.surface.TypeName.{TypeName}
use Rattle.rng_core.specs.declared.grammar.Pat.{Pat}
use Rattle.rng_core.specs.declared.grammar.Def.{Def}
use Rattle.rng_core.specs.declared.grammar.Grammar.{Grammar}
use Rattle.rng_core.specs.Meaning.{pattern_of, definition_of, definitions_of}
use Rattle.rng_core.specs.Names.{Class}
use Rattle.rng_core.specs.Patterns.{Pattern, Definition}
use Rattle.rng_core.specs.Patterns as pattern
use Rattle.rng_simplify.specs.declared.build.Task.{Task}
use Rattle.rng_simplify.specs.declared.build.Task.TheVariants as task
use Rattle.rng_simplify.specs.declared.fault.SchemaFault.{SchemaFault}
use Rattle.rng_simplify.specs.declared.fault.SchemaFault.TheVariants as fault
use Rattle.rng_simplify.specs.declared.form.Forms.{Forms}
use Rattle.rng_simplify.specs.declared.node.Sign.{Sign}
use Rattle.rng_simplify.specs.declared.node.Sign.TheVariants as sign
use Rattle.rng_simplify.specs.declared.shape.Shape.{Shape}
use Rattle.rng_simplify.specs.declared.shape.Shape.TheVariants as shape
use Rattle.rng_simplify.specs.declared.types.NodeType.{NodeType}
use Rattle.rng_simplify.specs.Cells.{Cell}
use Rattle.rng_simplify.specs.Cells as cell
use Rattle.rng_simplify.specs.CellMeanings.{IsCell}
use Rattle.rng_simplify.specs.Forms.{nodes}
use Rattle.rng_simplify.specs.Shown.{form_at, shape_parts, IsBehindParts, AreOfSchema}
use Rattle.rng_simplify.specs.NodeTypes.{known_at}

abbrev pub joined_pattern : Sign → Pattern → Pattern → Pattern
joined_pattern sign.Choice = pattern.choice
joined_pattern sign.Group = pattern.group
joined_pattern sign.Interleave = pattern.interleave

-- a shape of these, behind its parts
pub record IsShape (shapes : List Shape) (number : ℕ) (s : Shape) : Type 0 where
  pub there : slice_get shapes number ≡ Some s
  pub behind : IsBehindParts number s

-- the pattern of a value's node, and of a type's
pub record IsLiteral (cells : List Cell) (types : List (Option NodeType)) (i : ℕ) (q : Pattern) : Type 0 where
  pub type : TypeName
  pub text : List ℕ
  pub is_cell : IsCell cells i (cell.value type text)
  pub node_type : NodeType
  pub known : known_at types i ≡ Some node_type
  pub is : q ≡ pattern.literal node_type.datatype text

pub record IsTyped (types : List (Option NodeType)) (i : ℕ) (q : Pattern) : Type 0 where
  pub node_type : NodeType
  pub known : known_at types i ≡ Some node_type
  pub is : q ≡ pattern.typed node_type.datatype node_type.excepts

-- the pattern of an attribute's node with this value
pub record IsAttribute (cells : List Cell) (i : ℕ) (value q : Pattern) : Type 0 where
  pub class : Class
  pub part : ℕ
  pub is_cell : IsCell cells i (cell.attribute class part)
  pub is : q ≡ pattern.attribute class value

-- a pattern spells out a shape: it is made of those of the shape's parts
pub data Spells (cells : List Cell) (types : List (Option NodeType)) (shapes : List Shape) : ℕ → Pattern → Type 0 where
  spells_not_allowed : {n : ℕ} → IsShape shapes n shape.NotAllowed → Spells cells types shapes n pattern.not_allowed
  spells_empty : {n : ℕ} → IsShape shapes n shape.Empty → Spells cells types shapes n pattern.empty
  spells_text : {n : ℕ} → IsShape shapes n shape.Text → Spells cells types shapes n pattern.any_text
  spells_value : {n i : ℕ} {q : Pattern} → IsShape shapes n (shape.Value i) → IsLiteral cells types i q → Spells cells types shapes n q
  spells_type : {n i : ℕ} {q : Pattern} → IsShape shapes n (shape.Typed i) → IsTyped types i q → Spells cells types shapes n q
  spells_ref : {n number : ℕ} → IsShape shapes n (shape.Ref number) → Spells cells types shapes n (pattern.ref number)
  spells_list : {n part : ℕ} {q : Pattern} → IsShape shapes n (shape.List part) → Spells cells types shapes part q →
      Spells cells types shapes n (pattern.listed q)
  spells_attribute : {n i part : ℕ} {value q : Pattern} → IsShape shapes n (shape.Attribute i part) →
      Spells cells types shapes part value → IsAttribute cells i value q → Spells cells types shapes n q
  spells_one_or_more : {n part : ℕ} {q : Pattern} → IsShape shapes n (shape.OneOrMore part) → Spells cells types shapes part q →
      Spells cells types shapes n (pattern.one_or_more q)
  spells_joined : {n first second : ℕ} {p q : Pattern} (by : Sign) → IsShape shapes n (shape.Joined by first second) →
      Spells cells types shapes first p → Spells cells types shapes second q → Spells cells types shapes n (joined_pattern by p q)

-- ---- what is left to be done

-- these tasks, the next one first, end in the root alone, where these shapes were built, the last one first
pub data Runs (shapes : List Shape) (root : ℕ) : List Task → List ℕ → Type 0 where
  all_done : Runs shapes root [] (root ∷ [])
  spell_then : {n : ℕ} {tasks : List Task} {built : List ℕ} → n < length shapes → Runs shapes root tasks (n ∷ built) →
      Runs shapes root (task.Spell n ∷ tasks) built
  wrap_one : {n part : ℕ} {s : Shape} {tasks : List Task} {built : List ℕ} → IsShape shapes n s → n < length shapes →
      shape_parts s ≡ part ∷ [] → Runs shapes root tasks (n ∷ built) → Runs shapes root (task.Wrap n ∷ tasks) (part ∷ built)
  wrap_two : {n first second : ℕ} {s : Shape} {tasks : List Task} {built : List ℕ} → IsShape shapes n s → n < length shapes →
      shape_parts s ≡ first ∷ second ∷ [] → Runs shapes root tasks (n ∷ built) →
      Runs shapes root (task.Wrap n ∷ tasks) (second ∷ first ∷ built)

-- patterns that spell out these shapes
pub data AreSpelled (cells : List Cell) (types : List (Option NodeType)) (shapes : List Shape) : List Pattern → List ℕ → Type 0 where
  none_spelled : AreSpelled cells types shapes [] []
  next_spelled : {q : Pattern} {qs : List Pattern} {n : ℕ} {ns : List ℕ} → Spells cells types shapes n q →
      AreSpelled cells types shapes qs ns → AreSpelled cells types shapes (q ∷ qs) (n ∷ ns)

-- tasks and what is built, the last one being the next, are on the way to the root
pub record IsUnderWay (cells : List Cell) (types : List (Option NodeType)) (shapes : List Shape) (root : ℕ) (tasks : List Task)
    (built : List Pat) : Type 0 where
  pub numbers : List ℕ
  pub runs : Runs shapes root (reverse tasks) numbers
  pub spelled : AreSpelled cells types shapes (reverse (map pattern_of built)) numbers

-- how much is left to be done
abbrev pub work_of : List Shape → Task → ℕ
work_of shapes (task.Spell n) = 2 * nodes (form_at [] (λ i. []) shapes n)
work_of shapes (task.Wrap n) = 1

unfoldable pub work : List Shape → List Task → ℕ
work shapes tasks = sum_by (work_of shapes) tasks

-- a step does this task, and leaves less to be done
pub record DoesTask (cells : List Cell) (types : List (Option NodeType)) (shapes : List Shape) (t : Task) (tasks new_tasks : List Task)
    (built new_built : List Pat) : Type 0 where
  pub fewer : work shapes new_tasks < work shapes (tasks ++ t ∷ [])
  pub goes_on : (root : ℕ) → IsUnderWay cells types shapes root (tasks ++ t ∷ []) built →
      IsUnderWay cells types shapes root new_tasks new_built

-- tasks are put behind others
abbrev pub Leaves : List Task → List Task → List Task → Result (Unit {0}) SchemaFault → Type 0
Leaves old more new (Ok done) = new ≡ old ++ more
Leaves old more new (Err fault.NoMemory) = Unit {0}
Leaves old more new (Err other) = ⊥

-- ---- what is known before

-- a node has a type, or is an attribute
pub record HasType (types : List (Option NodeType)) (i : ℕ) : Type 0 where
  pub within : i < length types
  pub node_type : NodeType
  pub known : known_at types i ≡ Some node_type

pub record HasAttribute (cells : List Cell) (i : ℕ) : Type 0 where
  pub class : Class
  pub part : ℕ
  pub is_cell : IsCell cells i (cell.attribute class part)

-- a shape's node has its type
abbrev pub HasKnownType : List (Option NodeType) → Shape → Type 0
HasKnownType types (shape.Value i) = (t : NodeType) × (known_at types i ≡ Some t)
HasKnownType types (shape.Typed i) = (t : NodeType) × (known_at types i ≡ Some t)
HasKnownType types s = Unit {0}

-- all that patterns are built of
pub record IsReady (cells : List Cell) (types : List (Option NodeType)) (shapes : List Shape) : Type 0 where
  pub count : ℕ
  pub few : count < 2 ^ 32
  pub of_schema : AreOfSchema cells count shapes
  pub all_types : length types ≡ length cells
  pub each_known : (number : ℕ) (s : Shape) → slice_get shapes number ≡ Some s → HasKnownType types s

-- ---- what calls answer

abbrev pub BuildsPattern : List Cell → List (Option NodeType) → List Shape → ℕ → Result Pat SchemaFault → Type 0
BuildsPattern cells types shapes number (Ok built) = Spells cells types shapes number (pattern_of built)
BuildsPattern cells types shapes number (Err fault.NoMemory) = Unit {0}
BuildsPattern cells types shapes number (Err other) = ⊥

abbrev pub Does : List Cell → List (Option NodeType) → List Shape → Task → List Task → List Task → List Pat → List Pat →
    Result (Unit {0}) SchemaFault → Type 0
Does cells types shapes t tasks new_tasks built new_built (Ok done) = DoesTask cells types shapes t tasks new_tasks built new_built
Does cells types shapes t tasks new_tasks built new_built (Err fault.NoMemory) = Unit {0}
Does cells types shapes t tasks new_tasks built new_built (Err other) = ⊥

-- definitions spell out these elements
pub record IsDefinition (cells : List Cell) (types : List (Option NodeType)) (forms : Forms) (i : ℕ)
    (definition : Definition) : Type 0 where
  pub class : Class
  pub part : ℕ
  pub is_cell : IsCell cells i (cell.element class part)
  pub class_is : definition.class ≡ class
  pub content : Spells cells types forms.shapes (slice_index forms.of.items part) definition.content

pub data AreDefinitions (cells : List Cell) (types : List (Option NodeType)) (forms : Forms) : List ℕ → List Definition → Type 0 where
  no_definitions : AreDefinitions cells types forms [] []
  next_definition : {i : ℕ} {elements : List ℕ} {definition : Definition} {definitions : List Definition} →
      IsDefinition cells types forms i definition → AreDefinitions cells types forms elements definitions →
      AreDefinitions cells types forms (i ∷ elements) (definition ∷ definitions)

abbrev pub BuildsDefinition : List Cell → List (Option NodeType) → Forms → ℕ → Result Def SchemaFault → Type 0
BuildsDefinition cells types forms i (Ok def) = IsDefinition cells types forms i (definition_of def)
BuildsDefinition cells types forms i (Err fault.NoMemory) = Unit {0}
BuildsDefinition cells types forms i (Err other) = ⊥

pub record IsBuilt (cells : List Cell) (types : List (Option NodeType)) (forms : Forms) (root : ℕ) (elements : List ℕ)
    (grammar : Grammar) : Type 0 where
  pub start_is : Spells cells types forms.shapes (slice_index forms.of.items root) (pattern_of grammar.start)
  pub definitions_are : AreDefinitions cells types forms elements (definitions_of grammar)

abbrev pub Builds : List Cell → List (Option NodeType) → Forms → ℕ → List ℕ → Result Grammar SchemaFault → Type 0
Builds cells types forms root elements (Ok grammar) = IsBuilt cells types forms root elements grammar
Builds cells types forms root elements (Err fault.NoMemory) = Unit {0}
Builds cells types forms root elements (Err other) = ⊥
