-- The grammar that schema files define, and what `simplify` answers.
use Rattle.std.specs.Prelude.{◌≡◌, ℕ, List, Option, Some, None, Result, Ok, Err, IsUtf8}
use Rattle.nx_base.specs.declared.cause.Cause.{Cause}
use Rattle.nx_base.specs.declared.cause.Cause.TheVariants as cause
use Rattle.nx_host.specs.Count.{Rose}
use Rattle.nx_host.specs.Files.{FileMap}
use Rattle.rng_core.specs.declared.grammar.Grammar.{Grammar}
use Rattle.rng_core.specs.Meaning.{pattern_of, definitions_of}
use Rattle.rng_core.specs.Patterns.{Pattern, Definition}
use Rattle.rng_core.specs.Soundness.{IsSound}
use Rattle.rng_simplify.specs.declared.fault.SchemaFault.{SchemaFault}
use Rattle.rng_simplify.specs.declared.fault.SchemaFault.TheVariants.{Absent, NotUtf8, BadUri, Failed, NoMemory, Unreadable}
use Rattle.rng_simplify.specs.Broken.{IsAbsent, IsNoText, HasBadUri, IsBroken, WholeIsBroken}
use Rattle.rng_simplify.specs.Composed.{Composed}
use Rattle.rng_simplify.specs.ComposedFiles.{ComposesSchema}
use Rattle.rng_simplify.specs.Datatypes.{Typed, AreTyped}
use Rattle.rng_simplify.specs.Forms.{Form, FormDefinition}
use Rattle.rng_simplify.specs.Whole.{IsForm}

-- The files that are reached from the URI, in one piece that isn't broken, have this simple form with its types. Only the
-- numbers of the definitions are free.
pub record Simplifies (files : FileMap) (uri : List ℕ) (start : Pattern) (definitions : List Definition) : Type 0 where
  pub whole : Composed
  pub composed : ComposesSchema files uri whole
  pub unbroken : (why : Cause) → WholeIsBroken whole why → ⊥
  pub start_form : Form
  pub definition_forms : List FormDefinition
  pub form : IsForm whole start_form definition_forms
  pub start_is : Typed start_form start
  pub definitions_are : AreTyped definition_forms definitions

-- this holds of the files, where they tell what they hold
abbrev pub IfTold : Option FileMap → (FileMap → Type 0) → Type 0
IfTold None holds = Unit {0}
IfTold (Some files) holds = holds files

-- a cause that simplification has: none of the restrictions on a grammar, nor that no document is valid
abbrev pub IsOfSimplification : Cause → Type 0
IsOfSimplification cause.Path = ⊥
IsOfSimplification cause.Mixture = ⊥
IsOfSimplification cause.AttributeOverlap = ⊥
IsOfSimplification cause.WildcardOnce = ⊥
IsOfSimplification cause.InterleaveOverlap = ⊥
IsOfSimplification cause.TextTwice = ⊥
IsOfSimplification cause.NothingValid = ⊥
IsOfSimplification why = Unit {0}

-- What `simplify` may answer, where the files told this and the count of faults went from `before` to `after`. A grammar is
-- sound, the texts of a refusal are UTF-8, and a cause is one of simplification, whatever the files tell; want of memory is
-- free.
abbrev pub Answers : Option FileMap → List ℕ → ℕ → ℕ → Result Grammar SchemaFault → Type 0
Answers told uri before after (Ok grammar) =
    IfTold told (λ files. Simplifies files uri (pattern_of grammar.start) (definitions_of grammar)) × IsSound grammar × (after ≡ before)
Answers told uri before after (Err (Absent absent)) = IsUtf8 absent × IfTold told (λ files. IsAbsent files uri absent) × (after ≡ before)
Answers told uri before after (Err (NotUtf8 wrong at)) = IsUtf8 wrong × IfTold told (λ files. IsNoText files uri wrong at)
    × (after ≡ before)
Answers told uri before after (Err (BadUri text)) = IsUtf8 text × IfTold told (λ files. HasBadUri files uri text) × (after ≡ before)
Answers told uri before after (Err Failed) = Rose before after
Answers told uri before after (Err NoMemory) = after ≡ before
Answers told uri before after (Err (Unreadable why)) =
    IsOfSimplification why × IfTold told (λ files. IsBroken files uri why) × (after ≡ before)
