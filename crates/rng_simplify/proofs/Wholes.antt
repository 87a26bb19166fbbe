-- The schema in one piece, from the files that were loaded.
use Rattle.std.proofs.Common.{◌≡◌, refl, ℕ, List, Option, Some, None, Result, Ok, Err}
use Rattle.std.specs.Prelude.{reverse}
use Rattle.nx_base.specs.declared.cause.Cause.{Cause}
use Rattle.nx_host.specs.Files.{FileMap}
use Rattle.rng_simplify.specs.declared.compose.Whole.{Whole}
use Rattle.rng_simplify.specs.declared.fault.SchemaFault.{SchemaFault}
use Rattle.rng_simplify.specs.declared.fault.SchemaFault.TheVariants.{NoMemory, Unreadable}
use Rattle.rng_simplify.specs.declared.load.Loaded.{Loaded}
use Rattle.rng_simplify.specs.Broken.{IsBroken}
use Rattle.rng_simplify.specs.Refusals.{cells_of}
use Rattle.rng_simplify.specs.Composition.{IsOnePiece, GivesWhole}
use Rattle.rng_simplify.specs.LoadedFiles.{AllLoaded}
use Rattle.rng_simplify.specs.MadeCells.{MakesWhole, whole_made, refused}
use Rattle.rng_simplify.specs.Simplified.{IfTold}
use Rattle.rng_simplify.proofs.Causes.{composing_cause}
use Rattle.rng_simplify.proofs.OnePiece.{made_is_composed}
use Rattle.rng_simplify.proofs.Refusing.{refused_is_broken}
use Rattle.rng_simplify.proofs.Walking.{made_is_well_formed}
use Rattle.rng_simplify.proofs.Written.{made_is_text}

module _ (uri : List ℕ) (loaded : List Loaded) where
  broken_if : (told : Option FileMap) → AllLoaded told uri (reverse loaded) → (why : Cause) → whole_made loaded ≡ refused why →
      IfTold told (λ files. IsBroken files uri why)
  broken_if None all why is = tt
  broken_if (Some files) all why is = refused_is_broken files uri loaded all why is

  composed_if : (told : Option FileMap) → AllLoaded told uri (reverse loaded) → (whole : Whole) → MakesWhole loaded (Ok whole) →
      IfTold told (λ files. (number : ℕ → ℕ) → IsOnePiece files uri number (cells_of whole) whole.root)
  composed_if None all whole makes = tt
  composed_if (Some files) all whole makes = λ number. made_is_composed files uri loaded all whole.root _ makes.1 number

  -- what composing answers
  pub gives_whole : (told : Option FileMap) (count : ℕ) (result : Result Whole SchemaFault) → AllLoaded told uri (reverse loaded) →
      MakesWhole loaded result → GivesWhole told uri count count result
  gives_whole told count (Ok whole) all makes = (
    made_is_well_formed told uri loaded all whole.root _ makes.1,
    made_is_text told uri loaded all whole.root _ makes.1,
    composed_if told all whole makes,
    refl,
  )
  gives_whole told count (Err (Unreadable why)) all makes = (composing_cause loaded why makes, broken_if told all why makes, refl)
  gives_whole told count (Err NoMemory) all makes = refl
  gives_whole told count (Err fault) all makes = absurd makes
