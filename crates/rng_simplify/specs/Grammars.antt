-- The grammar of a schema in one piece, and why there is none.
use Rattle.std.specs.Prelude.{ℕ, List, length, Option, Result, Ok, Err}
use Rattle.nx_base.specs.declared.cause.Cause.{Cause}
use Rattle.rng_core.specs.declared.grammar.Grammar.{Grammar}
use Rattle.rng_core.specs.Meaning.{pattern_of, definitions_of}
use Rattle.rng_core.specs.Patterns.{Pattern, Definition}
use Rattle.rng_core.specs.Soundness.{IsSound}
use Rattle.rng_simplify.specs.declared.fault.SchemaFault.{SchemaFault}
use Rattle.rng_simplify.specs.declared.fault.SchemaFault.TheVariants.{NoMemory, Unreadable}
use Rattle.rng_simplify.specs.declared.form.Forms.{Forms}
use Rattle.rng_simplify.specs.declared.resolve.Resolved.{Resolved}
use Rattle.rng_simplify.specs.declared.types.NodeType.{NodeType}
use Rattle.rng_simplify.specs.Broken.{WholeIsBroken}
use Rattle.rng_simplify.specs.Cells.{Cell}
use Rattle.rng_simplify.specs.CellTexts.{AreTexts}
use Rattle.rng_simplify.specs.Composed.{Composed}
use Rattle.rng_simplify.specs.Datatypes.{Typed, AreTyped}
use Rattle.rng_simplify.specs.CellMeanings.{Denotes}
use Rattle.rng_simplify.specs.NodeForms.{AreForms}
use Rattle.rng_simplify.specs.Forms.{Form, FormDefinition, Value}
use Rattle.rng_simplify.specs.GoodClasses.{AreGood}
use Rattle.rng_simplify.specs.Limits.{AreWithinLimits}
use Rattle.rng_simplify.specs.ResolvedNodes.{IsResolved, IsOrdered}
use Rattle.rng_simplify.specs.NodePlaces.{AreWellFormed}
use Rattle.rng_simplify.specs.NodeTypes.{AreTypesBefore}
use Rattle.rng_simplify.specs.Whole.{IsForm}

-- ---- what is answered

-- the schema isn't broken, and has this simple form with its types
pub record IsSimplified (whole : Composed) (start : Pattern) (definitions : List Definition) : Type 0 where
  pub unbroken : (why : Cause) → WholeIsBroken whole why → ⊥
  pub start_form : Form
  pub definition_forms : List FormDefinition
  pub form : IsForm whole start_form definition_forms
  pub start_is : Typed start_form start
  pub definitions_are : AreTyped definition_forms definitions

-- a grammar is that of the schema that cells stand for, where elements have some numbers
pub record IsGrammarOf (cells : List Cell) (root : ℕ) (grammar : Grammar) : Type 0 where
  pub number : ℕ → ℕ
  pub simplified : (whole : Composed) → Denotes cells number root whole →
      IsSimplified whole (pattern_of grammar.start) (definitions_of grammar)
  pub sound : IsSound grammar

-- the schema is broken so, where elements have some numbers
pub record IsBrokenSchema (cells : List Cell) (root : ℕ) (why : Cause) : Type 0 where
  pub number : ℕ → ℕ
  pub broken : (whole : Composed) → Denotes cells number root whole → WholeIsBroken whole why

abbrev pub GivesGrammar : List Cell → ℕ → Result Grammar SchemaFault → Type 0
GivesGrammar cells root (Ok grammar) = IsGrammarOf cells root grammar
GivesGrammar cells root (Err (Unreadable why)) = IsBrokenSchema cells root why
GivesGrammar cells root (Err NoMemory) = Unit {0}
GivesGrammar cells root (Err other) = ⊥

-- ---- how far simplification is

-- nodes are resolved, of good classes and in order
pub record IsSorted (cells : List Cell) (root : ℕ) (found : Resolved) (order : List ℕ) : Type 0 where
  pub formed : AreWellFormed cells root
  pub texts : AreTexts cells
  pub resolved : IsResolved cells root found
  pub good : AreGood cells root
  pub ordered : IsOrdered cells root found order

-- they have their forms
pub record HasForms (cells : List Cell) (root : ℕ) (found : Resolved) (order : List ℕ) (forms : Forms) : Type 0 where
  pub sorted : IsSorted cells root found order
  pub forms_are : AreForms cells found order forms

-- and their types
pub record HasTypes (cells : List Cell) (root : ℕ) (found : Resolved) (order : List ℕ) (forms : Forms) (types : List (Option NodeType))
    : Type 0 where
  pub formed : HasForms cells root found order forms
  pub types_are : AreTypesBefore cells order (length order) forms types

-- and are within the limits
pub record IsMeasured (cells : List Cell) (root : ℕ) (found : Resolved) (order : List ℕ) (forms : Forms) (types : List (Option NodeType))
    : Type 0 where
  pub typed : HasTypes cells root found order forms types
  pub limited : (taken : ℕ → List Value) → AreWithinLimits cells taken forms root found.elements.items
