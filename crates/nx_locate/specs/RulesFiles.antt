-- The rules files that are reached from one, and the list of all their rules.
use Rattle.std.specs.Prelude.{◌≡◌, ℕ, List, [], ◌∷◌, ◌++◌, Option, Some, None, Contains, IsUtf8}
use Rattle.nx_host.specs.Files.{FileMap}
use Rattle.nx_host.specs.Uri.{Joins, IsBadUri}
use Rattle.nx_host.specs.Utf8.{StopsBeingText}
use Rattle.nx_locate.specs.declared.rule.PlacedRule.{PlacedRule}
use Rattle.nx_locate.specs.declared.rule.Rule.{Rule}
use Rattle.nx_locate.specs.declared.rule.Rule.TheVariants.{Include, Uri, DocumentElement, Namespace, Default, Transform, TypeId}
use Rattle.nx_locate.specs.Rules.{HasRules, HasNoRules}

-- the file under this URI is text, and has these rules
pub record Says (files : FileMap) (uri : List ℕ) (rules : List Rule) : Type 0 where
  pub bytes : List ℕ
  pub there : files uri ≡ Some bytes
  pub is_text : IsUtf8 bytes
  pub has : HasRules bytes rules

-- the text by which a rule includes another file, if it does
abbrev pub included_by : Rule → Option (List ℕ)
included_by (Include text) = Some text
included_by (Uri resource pattern leads) = None
included_by (DocumentElement prefix local leads) = None
included_by (Namespace ns leads) = None
included_by (Default leads) = None
included_by (Transform from to) = None
included_by (TypeId id leads) = None

-- ---- the list of all rules

mutual
  -- the rules of the file under this URI, with those of the files that it includes in the places of these; `chain` are the files
  -- that include it
  pub data AllRules (files : FileMap) : List (List ℕ) → List ℕ → List PlacedRule → Type 0 where
    of_file : {chain : List (List ℕ)} {uri : List ℕ} {all : List PlacedRule} (rules : List Rule) → Says files uri rules →
        Replaced files (uri ∷ chain) uri rules all → AllRules files chain uri all

  -- rules of the file with this URI, its includes replaced
  pub data Replaced (files : FileMap) : List (List ℕ) → List ℕ → List Rule → List PlacedRule → Type 0 where
    no_rules : {chain : List (List ℕ)} {base : List ℕ} → Replaced files chain base [] []
    own_rule : {chain : List (List ℕ)} {base : List ℕ} {rule : Rule} {more : List Rule} {all : List PlacedRule} → included_by rule ≡ None →
        Replaced files chain base more all → Replaced files chain base (rule ∷ more) (record { base = base; rule = rule } ∷ all)
    included : {chain : List (List ℕ)} {base text : List ℕ} {more : List Rule} {inner rest all : List PlacedRule} (other : List ℕ) →
        Joins base text other → ¬ Contains chain other → AllRules files chain other inner → Replaced files chain base more rest →
        all ≡ inner ++ rest → Replaced files chain base (Include text ∷ more) all

-- ---- files that are refused

-- a chain of files, the last one first, of which each includes the one before it here, and none stands twice
pub data Chain (files : FileMap) (start : List ℕ) : List (List ℕ) → Type 0 where
  the_first : Chain files start (start ∷ [])
  a_further : {uri other text : List ℕ} {outer : List (List ℕ)} (front behind : List Rule) → Chain files start (uri ∷ outer) →
      Says files uri (front ++ Include text ∷ behind) → Joins uri text other → ¬ Contains (uri ∷ outer) other →
      Chain files start (other ∷ uri ∷ outer)

-- the last file of a chain
pub record IsReached (files : FileMap) (start uri : List ℕ) : Type 0 where
  pub outer : List (List ℕ)
  pub chain : Chain files start (uri ∷ outer)

-- nothing is under the URI of a file that is reached
abbrev pub IsAbsent : FileMap → List ℕ → List ℕ → Type 0
IsAbsent files start uri = IsReached files start uri × (files uri ≡ None)

-- such a file isn't UTF-8: its bytes stop being text there
pub record IsNoText (files : FileMap) (start uri : List ℕ) (at : ℕ) : Type 0 where
  pub reached : IsReached files start uri
  pub bytes : List ℕ
  pub there : files uri ≡ Some bytes
  pub no_text : ¬ IsUtf8 bytes
  pub stops : StopsBeingText bytes at

-- such a file has a fault, or another root
pub record IsBad (files : FileMap) (start uri : List ℕ) : Type 0 where
  pub reached : IsReached files start uri
  pub bytes : List ℕ
  pub there : files uri ≡ Some bytes
  pub is_text : IsUtf8 bytes
  pub has_no_rules : HasNoRules bytes

-- the last file of a chain includes another by this text
pub record Includes (files : FileMap) (start uri : List ℕ) (outer : List (List ℕ)) (text : List ℕ) : Type 0 where
  pub chain : Chain files start (uri ∷ outer)
  pub front : List Rule
  pub behind : List Rule
  pub says : Says files uri (front ++ Include text ∷ behind)

-- such a text leads back into its chain
pub record IsLoop (files : FileMap) (start uri : List ℕ) : Type 0 where
  pub from : List ℕ
  pub outer : List (List ℕ)
  pub text : List ℕ
  pub includes : Includes files start from outer text
  pub joined : Joins from text uri
  pub leads_back : Contains (from ∷ outer) uri

-- such a text is no URI
pub record HasBadInclude (files : FileMap) (start text : List ℕ) : Type 0 where
  pub from : List ℕ
  pub outer : List (List ℕ)
  pub includes : Includes files start from outer text
  pub bad : IsBadUri from text
