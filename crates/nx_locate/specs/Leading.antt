-- Where a rule leads: whether it applies to a document, and what it yields.
use Rattle.std.specs.Prelude.{◌≡◌, ◌≢◌, ◌&&◌, ℕ, Bool, true, false, if◌then◌else◌, List, [], ◌∷◌, ◌++◌, Option, Some, None, is_some, option_map, length, Contains}
use Rattle.std.specs.List.{AllByRecursion}
use Rattle.std.specs.Str.{bytes_eq}
use Rattle.nx_host.specs.Files.{FileMap}
use Rattle.nx_host.specs.Uri.{Joins, IsBadUri}
use Rattle.nx_locate.specs.declared.document_element.DocumentElement.{DocumentElement}
use Rattle.nx_locate.specs.declared.rule.PlacedRule.{PlacedRule}
use Rattle.nx_locate.specs.declared.rule.Rule.{Rule}
use Rattle.nx_locate.specs.declared.rule.Rule.TheVariants.{Include, Uri, DocumentElement as OnElement, Namespace, Default, Transform, TypeId}
use Rattle.nx_locate.specs.declared.rule.Target.{Target}
use Rattle.nx_locate.specs.declared.rule.Target.TheVariants as target
use Rattle.nx_locate.specs.Patterns.{PatternFits, stars, made_text}
use Rattle.nx_locate.specs.Rules.{first_of}

-- what comes of a rule, or of all: the URI of a schema, nothing, or a text that is to be a reference and is none
pub data Outcome : Type 0 where
  schema : (uri : List ℕ) → Outcome
  nothing : Outcome
  bad : (text : List ℕ) → Outcome

-- what a rule is held against: the URI of the document, its document element, and all rules
pub record Question : Type 0 where
  pub document : List ℕ
  pub element : Option DocumentElement
  pub rules : List PlacedRule

-- ---- whether a rule applies

-- what is given is this
abbrev pub is_if_given : Option (List ℕ) → List ℕ → Bool
is_if_given None text = true
is_if_given (Some given) text = bytes_eq given text

-- each that is given is that of the document element's written name, an empty prefix where that has none
abbrev pub element_applies : Option DocumentElement → Option (List ℕ) → Option (List ℕ) → Bool
element_applies None prefix local = false
element_applies (Some element) prefix local = is_if_given prefix element.prefix && is_if_given local element.local

abbrev pub namespace_applies : Option DocumentElement → List ℕ → Bool
namespace_applies None ns = false
namespace_applies (Some element) ns = bytes_eq ns element.namespace

-- there is no `resource`, or it is another URI than the document's
abbrev pub IsElsewhere : List ℕ → List ℕ → Option (List ℕ) → Type 0
IsElsewhere base document None = Unit {0}
IsElsewhere base document (Some resource) = (uri : List ℕ) × Joins base resource uri × (uri ≢ document)

-- there is no `pattern`, or it doesn't fit
abbrev pub FitsNot : List ℕ → List ℕ → Option (List ℕ) → Type 0
FitsNot base document None = Unit {0}
FitsNot base document (Some pattern) = (runs : List (List ℕ)) → ¬ PatternFits base document pattern runs

-- ---- where a target leads

-- where a rule of this type leads
unfoldable pub leads_if_type : List ℕ → Rule → Option Target
leads_if_type id (TypeId other leads) = if bytes_eq other id then Some leads else None
leads_if_type id rule = None

-- where the first rule of this type leads, with the URI of its rules file; none where there is no such rule
unfoldable pub leads_of_type : List ℕ → List PlacedRule → Option (List ℕ × Target)
leads_of_type id [] = None
leads_of_type id (placed ∷ more) =
    first_of (option_map (λ (leads : Target). (placed.base, leads)) (leads_if_type id placed.rule)) (leads_of_type id more)

-- a reference of the rules file with this URI
abbrev pub Refers : List ℕ → List ℕ → Outcome → Type 0
Refers base text (schema uri) = Joins base text uri
Refers base text nothing = ⊥
Refers base text (bad wrong) = (wrong ≡ text) × IsBadUri base text

-- a target leads to a reference, through types of which none is met twice; `met` are those that were met
pub data Leads (rules : List PlacedRule) : List (List ℕ) → List ℕ → Target → Outcome → Type 0 where
  by_uri : {met : List (List ℕ)} {base text : List ℕ} {outcome : Outcome} → Refers base text outcome →
      Leads rules met base (target.Uri text) outcome
  by_type : {met : List (List ℕ)} {base id other : List ℕ} {leads : Target} {outcome : Outcome} → ¬ Contains met id →
      leads_of_type id rules ≡ Some (other, leads) → Leads rules (met ++ id ∷ []) other leads outcome →
      Leads rules met base (target.TypeId id) outcome
  type_unknown : {met : List (List ℕ)} {base id : List ℕ} → ¬ Contains met id → leads_of_type id rules ≡ None →
      Leads rules met base (target.TypeId id) nothing
  type_met : {met : List (List ℕ)} {base id : List ℕ} → Contains met id → Leads rules met base (target.TypeId id) nothing

-- ---- one rule

-- a rule that applies leads where its target does, any other nowhere
pub data GivesIf (rules : List PlacedRule) (base : List ℕ) (leads : Target) : Bool → Outcome → Type 0 where
  applies : {outcome : Outcome} → Leads rules [] base leads outcome → GivesIf rules base leads true outcome
  passed_over : GivesIf rules base leads false nothing

-- `uri`: the joined `resource` is the document's URI, or the `pattern` fits that; the first is tried first
pub data UriGives (rules : List PlacedRule) (document base : List ℕ) (resource pattern : Option (List ℕ)) (leads : Target) : Outcome → Type 0 where
  no_resource : {text : List ℕ} → resource ≡ Some text → IsBadUri base text → UriGives rules document base resource pattern leads (bad text)
  by_resource : {text : List ℕ} {outcome : Outcome} → resource ≡ Some text → Joins base text document →
      Leads rules [] base leads outcome → UriGives rules document base resource pattern leads outcome
  by_pattern : {text : List ℕ} {runs : List (List ℕ)} {outcome : Outcome} → IsElsewhere base document resource →
      pattern ≡ Some text → PatternFits base document text runs → Leads rules [] base leads outcome →
      UriGives rules document base resource pattern leads outcome
  by_neither : IsElsewhere base document resource → FitsNot base document pattern →
      UriGives rules document base resource pattern leads nothing

-- `transformURI`: the pattern fits, a URI is made by the other one, and it is there
pub data TransformGives (files : FileMap) (document base from to : List ℕ) : Outcome → Type 0 where
  not_fitting : ((runs : List (List ℕ)) → ¬ PatternFits base document from runs) → TransformGives files document base from to nothing
  other_number : {runs : List (List ℕ)} → PatternFits base document from runs → stars to ≢ length runs →
      TransformGives files document base from to nothing
  not_made : {runs : List (List ℕ)} → PatternFits base document from runs → stars to ≡ length runs →
      IsBadUri base (made_text base document to runs) → TransformGives files document base from to nothing
  not_there : {runs : List (List ℕ)} {uri : List ℕ} → PatternFits base document from runs → stars to ≡ length runs →
      Joins base (made_text base document to runs) uri → is_some (files uri) ≡ false → TransformGives files document base from to nothing
  is_there : {runs : List (List ℕ)} {uri : List ℕ} → PatternFits base document from runs → stars to ≡ length runs →
      Joins base (made_text base document to runs) uri → is_some (files uri) ≡ true →
      TransformGives files document base from to (schema uri)

-- what a rule gives, by its kind; a type is only looked up, and an include stands for other rules
abbrev pub RuleGives : FileMap → Question → List ℕ → Rule → Outcome → Type 0
RuleGives files asked base (Include text) outcome = outcome ≡ nothing
RuleGives files asked base (Uri resource pattern leads) outcome = UriGives asked.rules asked.document base resource pattern leads outcome
RuleGives files asked base (OnElement prefix local leads) outcome = GivesIf asked.rules base leads (element_applies asked.element prefix local) outcome
RuleGives files asked base (Namespace ns leads) outcome = GivesIf asked.rules base leads (namespace_applies asked.element ns) outcome
RuleGives files asked base (Default leads) outcome = GivesIf asked.rules base leads true outcome
RuleGives files asked base (Transform from to) outcome = TransformGives files asked.document base from to outcome
RuleGives files asked base (TypeId id leads) outcome = outcome ≡ nothing

abbrev pub Gives : FileMap → Question → PlacedRule → Outcome → Type 0
Gives files asked placed outcome = RuleGives files asked placed.base placed.rule outcome

-- ---- all rules

-- the first rule that doesn't give nothing
pub record FirstGives (files : FileMap) (asked : Question) (outcome : Outcome) : Type 0 where
  pub before : List PlacedRule
  pub rule : PlacedRule
  pub after : List PlacedRule
  pub rules_are : asked.rules ≡ before ++ rule ∷ after
  pub nothing_before : AllByRecursion (λ (one : PlacedRule). Gives files asked one nothing) before
  pub gives : Gives files asked rule outcome

-- what all rules give: the first schema, unless a reference before it is none
abbrev pub AllGive : FileMap → Question → Outcome → Type 0
AllGive files asked (schema uri) = FirstGives files asked (schema uri)
AllGive files asked nothing = AllByRecursion (λ (one : PlacedRule). Gives files asked one nothing) asked.rules
AllGive files asked (bad text) = FirstGives files asked (bad text)
