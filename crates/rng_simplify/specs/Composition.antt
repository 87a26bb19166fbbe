-- Laws of composing what was loaded: what is made is the schema in one piece.
use Rattle.std.specs.Prelude.{◌≡◌, ◌≢◌, ℕ, List, Option, Some, Result, Ok, Err, reverse}
use Rattle.nx_base.specs.declared.cause.Cause.{Cause}
use Rattle.nx_host.specs.Files.{FileMap}
use Rattle.rng_simplify.specs.declared.compose.Whole.{Whole}
use Rattle.rng_simplify.specs.declared.fault.SchemaFault.{SchemaFault}
use Rattle.rng_simplify.specs.declared.load.Loaded.{Loaded}
use Rattle.rng_simplify.specs.Refusals.{cells_of}
use Rattle.rng_simplify.specs.Broken.{IsBroken}
use Rattle.rng_simplify.specs.Cells.{Cell}
use Rattle.rng_simplify.specs.CellTexts.{AreTexts}
use Rattle.rng_simplify.specs.Composed.{Composed}
use Rattle.rng_simplify.specs.ComposedFiles.{ComposesSchema}
use Rattle.rng_simplify.specs.CellMeanings.{Denotes}
use Rattle.rng_simplify.specs.LoadedFiles.{AllLoaded}
use Rattle.rng_simplify.specs.MadeCells.{Stock, made, refused, no_piece, whole_made}
use Rattle.rng_simplify.specs.Simplified.{IfTold, Answers}
use Rattle.rng_simplify.specs.NodePlaces.{AreWellFormed}

-- each file that is mentioned has its piece
abbrev pub NoPieceIsMissing : Type 0
NoPieceIsMissing =
    (told : Option FileMap) (uri : List ℕ) (loaded : List Loaded) → AllLoaded told uri (reverse loaded) → whole_made loaded ≢ no_piece

-- no node that is made stands in two
abbrev pub MadeIsWellFormed : Type 0
MadeIsWellFormed =
    (told : Option FileMap) (uri : List ℕ) (loaded : List Loaded) → AllLoaded told uri (reverse loaded) → (root : ℕ) (left : Stock) →
    whole_made loaded ≡ made root left → AreWellFormed left.cells root

-- what is written in them is UTF-8
abbrev pub MadeIsText : Type 0
MadeIsText =
    (told : Option FileMap) (uri : List ℕ) (loaded : List Loaded) → AllLoaded told uri (reverse loaded) → (root : ℕ) (left : Stock) →
    whole_made loaded ≡ made root left → AreTexts left.cells

-- and well-formed nodes stand for something
abbrev pub WellFormedDenotes : Type 0
WellFormedDenotes =
    (cells : List Cell) (root : ℕ) → AreWellFormed cells root → (number : ℕ → ℕ) → (whole : Composed) × Denotes cells number root whole

-- which is the schema in one piece, whatever numbers its elements have
pub record IsOnePiece (files : FileMap) (uri : List ℕ) (number : ℕ → ℕ) (cells : List Cell) (root : ℕ) : Type 0 where
  pub whole : Composed
  pub composed : ComposesSchema files uri whole
  pub denotes : Denotes cells number root whole

abbrev pub MadeIsComposed : Type 0
MadeIsComposed =
    (files : FileMap) (uri : List ℕ) (loaded : List Loaded) → AllLoaded (Some files) uri (reverse loaded) → (root : ℕ) (left : Stock) →
    whole_made loaded ≡ made root left → (number : ℕ → ℕ) → IsOnePiece files uri number left.cells root

-- files that are refused make no piece
abbrev pub RefusedIsBroken : Type 0
RefusedIsBroken =
    (files : FileMap) (uri : List ℕ) (loaded : List Loaded) → AllLoaded (Some files) uri (reverse loaded) → (why : Cause) →
    whole_made loaded ≡ refused why → IsBroken files uri why

-- What composing answers, where the files told this and the count of faults went from `before` to `after`.
abbrev pub GivesWhole : Option FileMap → List ℕ → ℕ → ℕ → Result Whole SchemaFault → Type 0
GivesWhole told uri before after (Ok whole) =
    AreWellFormed (cells_of whole) whole.root
    × AreTexts (cells_of whole)
    × IfTold told (λ files. (number : ℕ → ℕ) → IsOnePiece files uri number (cells_of whole) whole.root)
    × (after ≡ before)
GivesWhole told uri before after (Err fault) = Answers told uri before after (Err fault)
