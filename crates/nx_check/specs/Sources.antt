-- Where the schema of a document is.
use Rattle.std.specs.Prelude.{◌≡◌, ℕ, Bool, List, codes, Option, Some, None, Ok, if◌then◌else◌}
use Rattle.nx_host.specs.Count.{Rose}
use Rattle.nx_host.specs.Files.{HasFile}
use Rattle.nx_host.specs.PathUri.{uri_of_path}
use Rattle.nx_host.specs.Uri.{Joins, IsBadUri}
use Rattle.nx_locate.specs.Locates.{Locates}
use Rattle.nx_locate.specs.NamedSchemas.{named_schema}
use Rattle.nx_session.specs.Editor.{FilesState, work_folder}
use Rattle.nx_check.specs.Naming.{Names}
use Rattle.nx_check.specs.Words.{Asked}
use Rattle.nx_check.specs.declared.document.Document.{Document}
use Rattle.nx_check.specs.declared.reason.Reason.{Reason}
use Rattle.nx_check.specs.declared.reason.Reason.TheVariants.{BadReference, Failed, NoMemory}

-- the rules by which the schema of the document is located: those of the file that the words name, else those in `schemas.xml` beside
-- the document, if that is there
abbrev pub HasRules : Option (List ℕ) → List ℕ → FilesState → Document → Option (List ℕ) → Type 0
HasRules (Some word) folder files document rules = (uri : List ℕ) × Names folder word uri × (rules ≡ Some uri)
HasRules None folder files document rules =
    (uri : List ℕ) × Joins document.uri (codes "schemas.xml") uri
    × ((there : Bool) × HasFile files.map uri there × (rules ≡ (if there then Some uri else None)))

-- the rules that there are locate this schema for the document, or none
pub record IsLocated (asked : Asked) (folder : List ℕ) (files : FilesState) (document : Document) (source : Option (List ℕ)) : Type 0 where
  pub rules : Option (List ℕ)
  pub has_rules : HasRules asked.rules folder files document rules
  pub located : Locates files.map rules document.uri document.bytes files.faults files.faults (Ok source)

-- the schema's URI text is that of the document's `xml-model`, if it has one, against its own URI; else rules locate it
abbrev pub IsFoundBy : Option (List ℕ) → Asked → List ℕ → FilesState → Document → Option (List ℕ) → Type 0
IsFoundBy (Some href) asked folder files document source = (uri : List ℕ) × Joins document.uri href uri × (source ≡ Some uri)
IsFoundBy None asked folder files document source = IsLocated asked folder files document source

-- the URI text of the document's schema is this: of the one that the words name, else of the one that is found for it; or it has none
abbrev pub HasSourceBy : Option (List ℕ) → Asked → List ℕ → FilesState → Document → Option (List ℕ) → Type 0
HasSourceBy (Some word) asked folder files document source = source ≡ Some (uri_of_path folder word)
HasSourceBy None asked folder files document source = IsFoundBy (named_schema document.bytes) asked folder files document source

abbrev pub HasSource : Asked → List ℕ → FilesState → Document → Option (List ℕ) → Type 0
HasSource asked folder files document source = HasSourceBy asked.schema asked folder files document source

-- the rules' word is the text of no URI, or the name `schemas.xml` is none against the document's
abbrev pub HasBadRules : Option (List ℕ) → List ℕ → Document → Type 0
HasBadRules (Some word) folder document = IsBadUri work_folder (uri_of_path folder word)
HasBadRules None folder document = IsBadUri document.uri (codes "schemas.xml")

-- what should lead to the document's schema is no URI
abbrev pub IsLostBy : Option (List ℕ) → Asked → List ℕ → Document → Type 0
IsLostBy (Some href) asked folder document = IsBadUri document.uri href
IsLostBy None asked folder document = HasBadRules asked.rules folder document

abbrev pub HasBadReference : Asked → List ℕ → Document → Type 0
HasBadReference asked folder document = (asked.schema ≡ None) × IsLostBy (named_schema document.bytes) asked folder document

-- ---- as the code sees it

-- why it isn't known whether rules lie beside the document
abbrev pub LacksRulesBeside : Document → FilesState → FilesState → Reason → Type 0
LacksRulesBeside document old new BadReference = IsBadUri document.uri (codes "schemas.xml") × (new ≡ old)
LacksRulesBeside document old new Failed = (new.map ≡ old.map) × Rose old.faults new.faults
LacksRulesBeside document old new NoMemory = new ≡ old
LacksRulesBeside document old new other = ⊥
