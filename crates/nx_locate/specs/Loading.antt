-- Rules files as they are fetched and read.
use Rattle.std.specs.Prelude.{◌≡◌, ℕ, List, Option, Some, None, Result, Ok, Err, IsUtf8, Vec}
use Rattle.std.specs.declared.alloc.Global.{Global}
use Rattle.std.specs.List.{AllByRecursion}
use Rattle.nx_base.specs.Tokens.{IsOfKind}
use Rattle.nx_base.specs.declared.locate_fault.LocateFault.{LocateFault}
use Rattle.nx_base.specs.declared.locate_fault.LocateFault.TheVariants.{RulesAbsent, RulesNotUtf8, BadRules, RulesLoop, BadUri, Failed, NoMemory}
use Rattle.nx_base.specs.declared.token.Token.{Token}
use Rattle.nx_host.specs.Count.{Rose}
use Rattle.nx_host.specs.Files.{FileMap}
use Rattle.nx_host.specs.Utf8.{StopsBeingText}
use Rattle.nx_locate.specs.declared.rule.Rule.{Rule}
use Rattle.nx_locate.specs.Locates.{IfTold}
use Rattle.nx_locate.specs.Rules.{HasRules, HasNoRules}
use Rattle.nx_locate.specs.RulesFiles.{Says}
use Rattle.nx_locate.specs.RulesRead.{AreTextRules}

-- the tokens are UTF-8 and of their kinds
abbrev pub AreTextTokens : List Token → Type 0
AreTextTokens tokens = AllByRecursion (λ (token : Token). IsUtf8 token.bytes × IsOfKind token) tokens

-- the refusal of a URI with nothing under it, and of one without rules
abbrev pub IsAbsence : List ℕ → LocateFault → Type 0
IsAbsence uri (RulesAbsent absent) = absent ≡ uri
IsAbsence uri NoMemory = Unit {0}
IsAbsence uri other = ⊥

abbrev pub IsNamed : List ℕ → LocateFault → Type 0
IsNamed uri (BadRules wrong) = wrong ≡ uri
IsNamed uri NoMemory = Unit {0}
IsNamed uri other = ⊥

-- its bytes are no text from there on
pub record IsNoTextAt (bytes : List ℕ) (at : ℕ) : Type 0 where
  pub no_text : ¬ IsUtf8 bytes
  pub stops : StopsBeingText bytes at

-- what the bytes under a URI say
abbrev pub SaysBytes : List ℕ → List ℕ → Result (Vec Rule Global) LocateFault → Type 0
SaysBytes uri bytes (Ok rules) = IsUtf8 bytes × HasRules bytes rules.items × AreTextRules rules.items
SaysBytes uri bytes (Err (RulesNotUtf8 wrong at)) = (wrong ≡ uri) × IsNoTextAt bytes at
SaysBytes uri bytes (Err (BadRules wrong)) = (wrong ≡ uri) × IsUtf8 bytes × HasNoRules bytes
SaysBytes uri bytes (Err NoMemory) = Unit {0}
SaysBytes uri bytes (Err other) = ⊥

-- what is under a URI
abbrev pub Fetches : Option FileMap → List ℕ → ℕ → ℕ → Result (List ℕ) LocateFault → Type 0
Fetches told uri before after (Ok bytes) = IfTold told (λ files. files uri ≡ Some bytes) × (after ≡ before)
Fetches told uri before after (Err (RulesAbsent absent)) = (absent ≡ uri) × IfTold told (λ files. files uri ≡ None) × (after ≡ before)
Fetches told uri before after (Err Failed) = Rose before after
Fetches told uri before after (Err NoMemory) = after ≡ before
Fetches told uri before after (Err other) = ⊥

-- what the file of a URI says
abbrev pub ReadsFile : Option FileMap → List ℕ → ℕ → ℕ → Result (Vec Rule Global) LocateFault → Type 0
ReadsFile told uri before after (Ok rules) =
    IfTold told (λ files. Says files uri rules.items) × AreTextRules rules.items × (after ≡ before)
ReadsFile told uri before after (Err (RulesAbsent absent)) = (absent ≡ uri) × IfTold told (λ files. files uri ≡ None) × (after ≡ before)
ReadsFile told uri before after (Err (RulesNotUtf8 wrong at)) =
    (wrong ≡ uri) × IfTold told (λ files. (bytes : List ℕ) × (files uri ≡ Some bytes) × IsNoTextAt bytes at) × (after ≡ before)
ReadsFile told uri before after (Err (BadRules wrong)) =
    (wrong ≡ uri) × IfTold told (λ files. (bytes : List ℕ) × (files uri ≡ Some bytes) × IsUtf8 bytes × HasNoRules bytes) × (after ≡ before)
ReadsFile told uri before after (Err Failed) = Rose before after
ReadsFile told uri before after (Err NoMemory) = after ≡ before
ReadsFile told uri before after (Err (RulesLoop other)) = ⊥
ReadsFile told uri before after (Err (BadUri text)) = ⊥
