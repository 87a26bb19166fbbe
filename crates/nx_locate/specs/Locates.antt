-- What the locating rules yield for a document.
use Rattle.std.specs.Prelude.{◌≡◌, ◌⊎◌, ℕ, List, [], Option, Some, None, Result, Ok, Err, IsUtf8, IfSome}
use Rattle.nx_base.specs.declared.locate_fault.LocateFault.{LocateFault}
use Rattle.nx_base.specs.declared.locate_fault.LocateFault.TheVariants.{RulesAbsent, RulesNotUtf8, BadRules, RulesLoop, BadUri, Failed, NoMemory}
use Rattle.nx_host.specs.Count.{Rose}
use Rattle.nx_host.specs.Files.{FileMap}
use Rattle.nx_locate.specs.declared.document_element.DocumentElement.{DocumentElement}
use Rattle.nx_locate.specs.declared.rule.PlacedRule.{PlacedRule}
use Rattle.nx_locate.specs.DocumentElements.{HasDocumentElement}
use Rattle.nx_locate.specs.Leading.{Outcome, schema, nothing, bad, Question, AllGive}
use Rattle.nx_locate.specs.RulesFiles.{AllRules, IsAbsent, IsNoText, IsBad, IsLoop, HasBadInclude}

-- this holds of the files, where they tell what they hold
abbrev pub IfTold : Option FileMap → (FileMap → Type 0) → Type 0
IfTold told holds = (files : FileMap) → told ≡ Some files → holds files

-- the rules that begin with the file under `rules` give this for the document of this URI and text
pub record RulesGive (files : FileMap) (rules document text : List ℕ) (outcome : Outcome) : Type 0 where
  pub all : List PlacedRule
  pub are_all : AllRules files [] rules all
  pub element : Option DocumentElement
  pub has_element : HasDocumentElement text element
  pub give : AllGive files (record { document = document; element = element; rules = all }) outcome

-- a schema or none, as an outcome
abbrev pub outcome_of : Option (List ℕ) → Outcome
outcome_of (Some uri) = schema uri
outcome_of None = nothing

-- a text that stands for a reference of a rules file, and is none: where a file is included, or where a rule that is met refers
abbrev pub IsBadReference : FileMap → List ℕ → List ℕ → List ℕ → List ℕ → Type 0
IsBadReference files rules document text wrong =
    HasBadInclude files rules wrong ⊎ RulesGive files rules document text (bad wrong)

-- What `locate` may answer where there are rules, the files told this, and the count of faults went from `before` to `after`.
-- Want of memory is free.
abbrev pub LocatesBy : Option FileMap → List ℕ → List ℕ → List ℕ → ℕ → ℕ → Result (Option (List ℕ)) LocateFault → Type 0
LocatesBy told rules document text before after (Ok found) =
    IfSome found IsUtf8 × IfTold told (λ files. RulesGive files rules document text (outcome_of found)) × (after ≡ before)
LocatesBy told rules document text before after (Err (RulesAbsent uri)) =
    IsUtf8 uri × IfTold told (λ files. IsAbsent files rules uri) × (after ≡ before)
LocatesBy told rules document text before after (Err (RulesNotUtf8 uri at)) =
    IsUtf8 uri × IfTold told (λ files. IsNoText files rules uri at) × (after ≡ before)
LocatesBy told rules document text before after (Err (BadRules uri)) =
    IsUtf8 uri × IfTold told (λ files. IsBad files rules uri) × (after ≡ before)
LocatesBy told rules document text before after (Err (RulesLoop uri)) =
    IsUtf8 uri × IfTold told (λ files. IsLoop files rules uri) × (after ≡ before)
LocatesBy told rules document text before after (Err (BadUri wrong)) =
    IsUtf8 wrong × IfTold told (λ files. IsBadReference files rules document text wrong) × (after ≡ before)
LocatesBy told rules document text before after (Err Failed) = Rose before after
LocatesBy told rules document text before after (Err NoMemory) = after ≡ before

-- without rules there is no schema
abbrev pub LocatesNothing : ℕ → ℕ → Result (Option (List ℕ)) LocateFault → Type 0
LocatesNothing before after (Ok None) = after ≡ before
LocatesNothing before after (Ok (Some uri)) = ⊥
LocatesNothing before after (Err fault) = ⊥

-- what `locate` may answer
abbrev pub Locates : Option FileMap → Option (List ℕ) → List ℕ → List ℕ → ℕ → ℕ → Result (Option (List ℕ)) LocateFault → Type 0
Locates told None document text before after result = LocatesNothing before after result
Locates told (Some rules) document text before after result = LocatesBy told rules document text before after result
