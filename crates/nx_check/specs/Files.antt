-- What becomes of a document that a word names.
use Rattle.std.specs.Prelude.{◌≡◌, ℕ, ◌⊎◌, Bool, false, List, [], length, Option, option_map}
use Rattle.nx_base.specs.declared.fault.Fault.{Fault}
use Rattle.nx_recover.specs.Faults.{AreFaultsOf}
use Rattle.nx_session.specs.Editor.{FilesState}
use Rattle.rng_core.specs.Meaning.{language_of}
use Rattle.rng_core.specs.Patterns.{Language}
use Rattle.rng_core.specs.declared.grammar.Grammar.{Grammar}
use Rattle.nx_check.specs.Naming.{IsDocument}
use Rattle.nx_check.specs.Reasons.{Stops, wants_memory}
use Rattle.nx_check.specs.Reports.{IsReport}
use Rattle.nx_check.specs.Schemas.{HoldsSchema}
use Rattle.nx_check.specs.Sources.{HasSource}
use Rattle.nx_check.specs.Telling.{reason_line, Tells}
use Rattle.nx_check.specs.Words.{Asked}
use Rattle.nx_check.specs.declared.document.Document.{Document}
use Rattle.nx_check.specs.declared.reason.Reason.{Reason}
use Rattle.nx_check.specs.declared.reason.Reason.TheVariants.{NoMemory}
use Rattle.nx_check.specs.declared.told.Told.{Told}
use Rattle.nx_check.specs.declared.told.Verdict.{Verdict}
use Rattle.nx_check.specs.declared.told.Verdict.TheVariants.{Checked, Unread, Starved}

-- the document was checked against its schema, or against none, and this is told of its faults, of which there are so many
pub record IsChecked (asked : Asked) (folder word : List ℕ) (files : FilesState) (count : ℕ) (text : List ℕ) : Type 0 where
  pub document : Document
  pub is_document : IsDocument folder word files.map document
  pub source : Option (List ℕ)
  pub has_source : HasSource asked folder files document source
  pub schema : Option Grammar
  pub holds : HoldsSchema files.map source schema
  pub faults : List Fault
  pub are_faults : AreFaultsOf (option_map language_of schema) document.bytes faults
  pub counted : count ≡ length faults
  pub report : IsReport asked.quiet (option_map language_of schema) document.bytes word faults text

-- it isn't checked, for another reason than want of memory, and this is told
pub record IsUnread (asked : Asked) (folder word : List ℕ) (old new : FilesState) (text : List ℕ) : Type 0 where
  pub reason : Reason
  pub mid : FilesState
  pub stops : Stops asked folder word old mid reason
  pub no_want : wants_memory reason ≡ false
  pub tells : Tells folder word reason mid text new

-- there was no memory to check it, or to tell what was found; this is told, if there is memory for it
pub record IsStarved (folder word : List ℕ) (old new : FilesState) (text : List ℕ) : Type 0 where
  pub same_map : new.map ≡ old.map
  pub told : (text ≡ []) ⊎ (text ≡ reason_line folder word NoMemory)

abbrev pub ChecksAs : Verdict → Asked → List ℕ → FilesState → List ℕ → List ℕ → FilesState → Type 0
ChecksAs (Checked count) asked folder old word text new = IsChecked asked folder word old count text × (new ≡ old)
ChecksAs Unread asked folder old word text new = IsUnread asked folder word old new text
ChecksAs Starved asked folder old word text new = IsStarved folder word old new text

-- what becomes of the document
abbrev pub ChecksFile : Asked → List ℕ → FilesState → List ℕ → Told → FilesState → Type 0
ChecksFile asked folder old word told new = ChecksAs told.verdict asked folder old word told.text new

-- ---- as the code sees it

-- what is told of a document of this text and word that was checked against this schema
abbrev pub IsToldOf : Bool → Option Language → List ℕ → List ℕ → Told → Type 0
IsToldOf quiet schema text word told =
    (faults : List Fault) × AreFaultsOf schema text faults × (told.verdict ≡ Checked (length faults)) × IsReport quiet schema text word faults told.text

-- that of a document for which there was no memory
abbrev pub IsStarvedTold : List ℕ → List ℕ → Told → Type 0
IsStarvedTold folder word told = (told.verdict ≡ Starved) × ((told.text ≡ []) ⊎ (told.text ≡ reason_line folder word NoMemory))
