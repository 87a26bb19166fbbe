-- What the parts of the search for a schema may answer. Want of memory is free.
use Rattle.std.specs.Prelude.{◌≡◌, ℕ, Bool, true, false, List, Option, Some, None, Result, Ok, Err, IsUtf8, IfSome, is_some, length}
use Rattle.std.specs.List.{AllByRecursion}
use Rattle.nx_base.specs.declared.locate_fault.LocateFault.{LocateFault}
use Rattle.nx_base.specs.declared.locate_fault.LocateFault.TheVariants.{RulesAbsent, RulesNotUtf8, BadRules, RulesLoop, BadUri, Failed, NoMemory}
use Rattle.nx_base.specs.declared.memory.NoMemory.{NoMemory as WantOfMemory}
use Rattle.nx_host.specs.Count.{Rose}
use Rattle.nx_host.specs.Files.{FileMap}
use Rattle.nx_host.specs.Uri.{Joins, IsBadUri}
use Rattle.nx_locate.specs.declared.document_element.DocumentElement.{DocumentElement}
use Rattle.nx_locate.specs.declared.rule.PlacedRule.{PlacedRule}
use Rattle.nx_locate.specs.Leading.{Outcome, schema, nothing, bad, Question, IsElsewhere, FitsNot, TransformGives}
use Rattle.nx_locate.specs.Locates.{IfTold, outcome_of}
use Rattle.nx_locate.specs.Patterns.{PatternFits, stars, made_text}
use Rattle.nx_locate.specs.RulesRead.{IsTextRule}

-- what rules are held against
abbrev pub question : List ℕ → Option DocumentElement → List PlacedRule → Question
question document element rules = record { document = document; element = element; rules = rules }

-- what a rule holds, and the URI of its file, are UTF-8
abbrev pub IsTextPlaced : PlacedRule → Type 0
IsTextPlaced placed = IsUtf8 placed.base × IsTextRule placed.rule

abbrev pub AreTextPlaced : List PlacedRule → Type 0
AreTextPlaced rules = AllByRecursion IsTextPlaced rules

-- ---- one reference

-- the refusal of a text that is no URI
abbrev pub RefusesText : List ℕ → LocateFault → Type 0
RefusesText text (BadUri wrong) = wrong ≡ text
RefusesText text NoMemory = Unit {0}
RefusesText text other = ⊥

-- what the text denotes in the rules file of that URI
abbrev pub MakesUri : List ℕ → List ℕ → Result (List ℕ) LocateFault → Type 0
MakesUri base text (Ok uri) = Joins base text uri × IsUtf8 uri
MakesUri base text (Err (BadUri wrong)) = (wrong ≡ text) × IsBadUri base text
MakesUri base text (Err NoMemory) = Unit {0}
MakesUri base text (Err other) = ⊥

-- ---- outcomes

-- an answer without a look at files stands for such an outcome
abbrev pub Answers : (Outcome → Type 0) → Result (Option (List ℕ)) LocateFault → Type 0
Answers gives (Ok found) = IfSome found IsUtf8 × gives (outcome_of found)
Answers gives (Err (BadUri text)) = IsUtf8 text × gives (bad text)
Answers gives (Err NoMemory) = Unit {0}
Answers gives (Err other) = ⊥

-- an answer that files were asked for stands for such an outcome, as far as they tell
abbrev pub GivesTo : Option FileMap → (FileMap → Outcome → Type 0) → ℕ → ℕ → Result (Option (List ℕ)) LocateFault → Type 0
GivesTo told gives before after (Ok found) =
    IfSome found IsUtf8 × IfTold told (λ files. gives files (outcome_of found)) × (after ≡ before)
GivesTo told gives before after (Err (BadUri text)) = IsUtf8 text × IfTold told (λ files. gives files (bad text)) × (after ≡ before)
GivesTo told gives before after (Err Failed) = Rose before after
GivesTo told gives before after (Err NoMemory) = after ≡ before
GivesTo told gives before after (Err other) = ⊥

-- whether something is under the URI
abbrev pub HasFileAt : Option FileMap → List ℕ → ℕ → ℕ → Result Bool LocateFault → Type 0
HasFileAt told uri before after (Ok found) = IfTold told (λ files. is_some (files uri) ≡ found) × (after ≡ before)
HasFileAt told uri before after (Err Failed) = Rose before after
HasFileAt told uri before after (Err NoMemory) = after ≡ before
HasFileAt told uri before after (Err other) = ⊥

-- ---- parts of rules

-- whether the `resource` is the document's URI
abbrev pub ResourceAnswers : List ℕ → List ℕ → Option (List ℕ) → Result Bool LocateFault → Type 0
ResourceAnswers base document resource (Ok true) = (text : List ℕ) × (resource ≡ Some text) × Joins base text document
ResourceAnswers base document resource (Ok false) = IsElsewhere base document resource
ResourceAnswers base document resource (Err (BadUri text)) = (resource ≡ Some text) × IsUtf8 text × IsBadUri base text
ResourceAnswers base document resource (Err NoMemory) = Unit {0}
ResourceAnswers base document resource (Err other) = ⊥

-- whether the `pattern` fits
abbrev pub PatternAnswers : List ℕ → List ℕ → Option (List ℕ) → Result Bool WantOfMemory → Type 0
PatternAnswers base document pattern (Ok true) =
    (text : List ℕ) × (runs : List (List ℕ)) × (pattern ≡ Some text) × PatternFits base document text runs
PatternAnswers base document pattern (Ok false) = FitsNot base document pattern
PatternAnswers base document pattern (Err error) = Unit {0}

-- the URI that a `transformURI` makes, before it is asked for; none where it makes none
pub record IsMade (document base from to uri : List ℕ) : Type 0 where
  pub runs : List (List ℕ)
  pub fits : PatternFits base document from runs
  pub as_many : stars to ≡ length runs
  pub joined : Joins base (made_text base document to runs) uri

abbrev pub MadeAnswers : List ℕ → List ℕ → List ℕ → List ℕ → Result (Option (List ℕ)) WantOfMemory → Type 0
MadeAnswers document base from to (Ok None) = (files : FileMap) → TransformGives files document base from to nothing
MadeAnswers document base from to (Ok (Some uri)) = IsMade document base from to uri × IsUtf8 uri
MadeAnswers document base from to (Err error) = Unit {0}

-- the URI itself, where something is under it
abbrev pub ThereAnswers : Option FileMap → List ℕ → ℕ → ℕ → Result (Option (List ℕ)) LocateFault → Type 0
ThereAnswers told uri before after (Ok None) = IfTold told (λ files. is_some (files uri) ≡ false) × (after ≡ before)
ThereAnswers told uri before after (Ok (Some found)) =
    (found ≡ uri) × IfTold told (λ files. is_some (files uri) ≡ true) × (after ≡ before)
ThereAnswers told uri before after (Err Failed) = Rose before after
ThereAnswers told uri before after (Err NoMemory) = after ≡ before
ThereAnswers told uri before after (Err other) = ⊥
