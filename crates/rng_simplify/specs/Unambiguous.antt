-- Laws of simple forms and of pieces: what the definitions say, they say of one thing.
use Rattle.std.specs.Prelude.{◌≡◌, ◌⊎◌, ℕ, List, Some, Ok, Err}
use Rattle.nx_base.specs.declared.cause.Cause.{Cause}
use Rattle.nx_host.specs.Files.{FileMap}
use Rattle.rng_core.specs.declared.grammar.Grammar.{Grammar}
use Rattle.rng_core.specs.Patterns.{Pattern, Definition}
use Rattle.rng_simplify.specs.declared.fault.SchemaFault.{SchemaFault}
use Rattle.rng_simplify.specs.declared.fault.SchemaFault.TheVariants.{NoMemory, Failed}
use Rattle.rng_simplify.specs.Broken.{IsAbsent, IsNoText, HasBadUri, IsRefused, HasIncludeLoop, IncludesOther, ReplacesNothing, IsBroken}
use Rattle.rng_simplify.specs.Composed.{Composed, Clauses}
use Rattle.rng_simplify.specs.ComposedFiles.{ComposesSchema}
use Rattle.rng_simplify.specs.Forms.{Form, FormDefinition}
use Rattle.rng_simplify.specs.Grammars.{IsSimplified}
use Rattle.rng_simplify.specs.Simple.{Simple}
use Rattle.rng_simplify.specs.Simplified.{Simplifies, Answers}
use Rattle.rng_simplify.specs.Unnumbered.{unnumbered}
use Rattle.rng_simplify.specs.Whole.{IsForm}

-- a pattern has one simple form
abbrev pub SimpleFormIsOne : Type 0
SimpleFormIsOne = (scopes : List Clauses) (p : Composed) (q r : Form) → Simple scopes p q → Simple scopes p r → q ≡ r

-- a schema in one piece has one simple form
abbrev pub SchemaFormIsOne : Type 0
SchemaFormIsOne =
    (whole : Composed) (start other : Form) (definitions others : List FormDefinition) → IsForm whole start definitions →
    IsForm whole other others → (start ≡ other) × (definitions ≡ others)

-- and one grammar
abbrev pub GrammarIsOne : Type 0
GrammarIsOne =
    (whole : Composed) (start other : Pattern) (definitions others : List Definition) → IsSimplified whole start definitions →
    IsSimplified whole other others → (start ≡ other) × (definitions ≡ others)

-- files make one piece, but for the numbers of its elements
abbrev pub PieceIsOne : Type 0
PieceIsOne =
    (files : FileMap) (uri : List ℕ) (whole other : Composed) → ComposesSchema files uri whole → ComposesSchema files uri other →
    unnumbered whole ≡ unnumbered other

-- nothing is wrong with the files themselves
pub record ArePassed (files : FileMap) (uri : List ℕ) : Type 0 where
  pub none_absent : (absent : List ℕ) → IsAbsent files uri absent → ⊥
  pub all_texts : (wrong : List ℕ) (at : ℕ) → IsNoText files uri wrong at → ⊥
  pub no_bad_uri : (text : List ℕ) → HasBadUri files uri text → ⊥
  pub none_refused : (why : Cause) → IsRefused files uri why → ⊥
  pub no_loop : HasIncludeLoop files uri → ⊥
  pub grammars_included : IncludesOther files uri → ⊥
  pub replaced_defined : ReplacesNothing files uri → ⊥

-- so it is where they make one piece
abbrev pub ComposedArePassed : Type 0
ComposedArePassed = (files : FileMap) (uri : List ℕ) (whole : Composed) → ComposesSchema files uri whole → ArePassed files uri

-- files that have a grammar are not broken, whatever numbers elements have
abbrev pub SimplifiedIsNotBroken : Type 0
SimplifiedIsNotBroken =
    (files : FileMap) (uri : List ℕ) (start : Pattern) (definitions : List Definition) → Simplifies files uri start definitions →
    (why : Cause) → IsBroken files uri why → ⊥

-- and another call refuses them for want of memory alone, or where a file could not be had
abbrev pub GrammarIsNoRefusal : Type 0
GrammarIsNoRefusal =
    (files : FileMap) (uri : List ℕ) (before after before_again after_again : ℕ) (grammar : Grammar) (refusal : SchemaFault) →
    Answers (Some files) uri before after (Ok grammar) → Answers (Some files) uri before_again after_again (Err refusal) →
    (refusal ≡ NoMemory) ⊎ (refusal ≡ Failed)
