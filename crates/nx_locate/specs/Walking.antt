-- The chain of rules files that are open, while their rules are listed.
use Rattle.std.specs.Prelude.{◌≡◌, ℕ, List, [], ◌∷◌, ◌++◌, Option, Some, Result, Ok, Err, IsUtf8, reverse, map, Contains, Vec}
use Rattle.std.specs.declared.alloc.Global.{Global}
use Rattle.std.specs.List.{AllByRecursion}
use Rattle.nx_base.specs.declared.locate_fault.LocateFault.{LocateFault}
use Rattle.nx_base.specs.declared.locate_fault.LocateFault.TheVariants.{RulesAbsent, RulesNotUtf8, BadRules, RulesLoop, BadUri, Failed, NoMemory}
use Rattle.nx_host.specs.Count.{Rose}
use Rattle.nx_host.specs.Files.{FileMap}
use Rattle.nx_host.specs.Uri.{Joins, IsBadUri}
use Rattle.nx_locate.specs.declared.load.OpenFile.{OpenFile}
use Rattle.nx_locate.specs.declared.rule.PlacedRule.{PlacedRule}
use Rattle.nx_locate.specs.declared.rule.Rule.{Rule}
use Rattle.nx_locate.specs.Answering.{AreTextPlaced}
use Rattle.nx_locate.specs.Loading.{ReadsFile}
use Rattle.nx_locate.specs.Locates.{IfTold}
use Rattle.nx_locate.specs.RulesFiles.{Says, AllRules, Replaced, Chain, IsAbsent, IsNoText, IsBad, IsLoop, HasBadInclude}
use Rattle.nx_locate.specs.RulesRead.{AreTextRules}

-- an open file, and its rules that aren't listed yet
pub record Open : Type 0 where
  pub uri : List ℕ
  pub left : List Rule

abbrev pub left_in : OpenFile → List Rule
left_in file = reverse file.waiting.items

abbrev pub opened : List ℕ → List Rule → Open
opened uri left = record { uri = uri; left = left }

abbrev pub open_of : OpenFile → Open
open_of file = opened file.uri (left_in file)

-- the files of a chain, the innermost first
abbrev pub opens_of : List OpenFile → List Open
opens_of chain = map open_of (reverse chain)

abbrev pub uris_of : List Open → List (List ℕ)
uris_of opens = map (λ (file : Open). file.uri) opens

-- this is the list of what the open files have left
pub data IsLeft (files : FileMap) : List Open → List PlacedRule → Type 0 where
  none_open : IsLeft files [] []
  one_open : {file : Open} {outer : List Open} {own others all : List PlacedRule} →
      Replaced files (file.uri ∷ uris_of outer) file.uri file.left own → IsLeft files outer others → all ≡ own ++ others →
      IsLeft files (file ∷ outer) all

-- each open file is the last of a chain, and has rules of which these are left
pub record IsOpen (files : FileMap) (start : List ℕ) (file : Open) (outer : List Open) : Type 0 where
  pub chain : Chain files start (file.uri ∷ uris_of outer)
  pub front : List Rule
  pub says : Says files file.uri (front ++ file.left)

abbrev pub AreOpen : FileMap → List ℕ → List Open → Type 0
AreOpen files start [] = Unit {0}
AreOpen files start (file ∷ outer) = IsOpen files start file outer × AreOpen files start outer

-- these rules are listed, and those are left
pub record IsUnderWay (files : FileMap) (start : List ℕ) (opens : List Open) (listed : List PlacedRule) : Type 0 where
  pub are_open : AreOpen files start opens
  pub completed : (rest : List PlacedRule) → IsLeft files opens rest → AllRules files [] start (listed ++ rest)

abbrev pub UnderWay : Option FileMap → List ℕ → List Open → List PlacedRule → Type 0
UnderWay told start opens listed = IfTold told (λ files. IsUnderWay files start opens listed)

-- what an open file holds is UTF-8
abbrev pub IsTextOpen : Open → Type 0
IsTextOpen file = IsUtf8 file.uri × AreTextRules file.left

abbrev pub AreTextOpen : List Open → Type 0
AreTextOpen opens = AllByRecursion IsTextOpen opens

-- ---- refusals

-- why the rules files are refused, the counts of faults before and after it
abbrev pub Refuses : Option FileMap → List ℕ → ℕ → ℕ → LocateFault → Type 0
Refuses told start before after (RulesAbsent uri) = IsUtf8 uri × IfTold told (λ files. IsAbsent files start uri) × (after ≡ before)
Refuses told start before after (RulesNotUtf8 uri at) = IsUtf8 uri × IfTold told (λ files. IsNoText files start uri at) × (after ≡ before)
Refuses told start before after (BadRules uri) = IsUtf8 uri × IfTold told (λ files. IsBad files start uri) × (after ≡ before)
Refuses told start before after (RulesLoop uri) = IsUtf8 uri × IfTold told (λ files. IsLoop files start uri) × (after ≡ before)
Refuses told start before after (BadUri text) = IsUtf8 text × IfTold told (λ files. HasBadInclude files start text) × (after ≡ before)
Refuses told start before after Failed = Rose before after
Refuses told start before after NoMemory = after ≡ before

-- the URI that the text denotes in the file of the URI `base`, where it is none of a chain that ends with that file
abbrev pub NextUri : List (List ℕ) → List ℕ → List ℕ → Result (List ℕ) LocateFault → Type 0
NextUri outer base text (Ok uri) = Joins base text uri × IsUtf8 uri × (Contains (base ∷ outer) uri → ⊥)
NextUri outer base text (Err (BadUri wrong)) = (wrong ≡ text) × IsBadUri base text
NextUri outer base text (Err (RulesLoop uri)) = Joins base text uri × IsUtf8 uri × Contains (base ∷ outer) uri
NextUri outer base text (Err NoMemory) = Unit {0}
NextUri outer base text (Err other) = ⊥

-- a file that was read is put behind the chain
abbrev pub IsAdded : List ℕ → List Rule → List OpenFile → List OpenFile → Type 0
IsAdded uri rules old new = opens_of new ≡ opened uri rules ∷ opens_of old

-- reading the file of a URI, and putting it behind the chain
abbrev pub OpensFile : {A : Type 0} → Option FileMap → List ℕ → ℕ → ℕ → List OpenFile → List OpenFile → Result A LocateFault → Type 0
OpensFile told uri before after old new (Ok done) =
    (rules : List Rule) × IfTold told (λ files. Says files uri rules) × AreTextRules rules × IsAdded uri rules old new × (after ≡ before)
OpensFile told uri before after old new (Err fault) = ReadsFile told uri before after (Err fault)

-- a turn goes on, or the files are refused
abbrev pub GoesOn : {A : Type 0} → Option FileMap → List ℕ → ℕ → ℕ → List Open → List PlacedRule → Result A LocateFault → Type 0
GoesOn told start before after opens listed (Ok done) = UnderWay told start opens listed × (after ≡ before)
GoesOn told start before after opens listed (Err fault) = Refuses told start before after fault

-- all turns end, or the files are refused
abbrev pub Lists : {A : Type 0} → Option FileMap → List ℕ → ℕ → ℕ → List PlacedRule → Result A LocateFault → Type 0
Lists told start before after listed (Ok done) = IfTold told (λ files. AllRules files [] start listed) × (after ≡ before)
Lists told start before after listed (Err fault) = Refuses told start before after fault

abbrev pub Loads : Option FileMap → List ℕ → ℕ → ℕ → Result (Vec PlacedRule Global) LocateFault → Type 0
Loads told start before after (Ok rules) =
    AreTextPlaced rules.items × IfTold told (λ files. AllRules files [] start rules.items) × (after ≡ before)
Loads told start before after (Err fault) = Refuses told start before after fault
