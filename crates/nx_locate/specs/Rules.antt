-- The rules of a rules file, which is read as a document without a schema. Locating rules are this project's own, after those of
-- the nXML mode's manual.
use Rattle.std.specs.Prelude.{◌≡◌, ◌≢◌, ◌⊎◌, Bool, true, false, if◌then◌else◌, List, [], ◌∷◌, ◌++◌, ℕ, Option, Some, None, option_map, codes, map}
use Rattle.std.specs.Str.{bytes_eq}
use Rattle.nx_base.specs.Names.{same_name}
use Rattle.nx_base.specs.Trees.{Tree, Children, Attribute, nil, string, element, flat}
use Rattle.nx_base.specs.declared.name.Name.{Name}
use Rattle.nx_events.specs.Among.{faults_among, events_among}
use Rattle.nx_events.specs.Items.{items_of_text}
use Rattle.nx_events.specs.TreeEvents.{as_event}
use Rattle.nx_locate.specs.declared.rule.Rule.{Rule}
use Rattle.nx_locate.specs.declared.rule.Rule.TheVariants.{Include, Uri, DocumentElement, Namespace, Default, Transform, TypeId}
use Rattle.nx_locate.specs.declared.rule.Target.{Target}
use Rattle.nx_locate.specs.declared.rule.Target.TheVariants as target

abbrev pub rules_namespace : List ℕ
rules_namespace = codes "http://thaiopensource.com/ns/locating-rules/1.0"

-- the name of the root
abbrev pub root_name : Name
root_name = record { ns = rules_namespace; local = codes "locatingRules" }

-- ---- one rule

-- the value of the attribute with this local name in no namespace
unfoldable pub value_of : List ℕ → List Attribute → Option (List ℕ)
value_of local [] = None
value_of local (a ∷ more) = if same_name a.name (record { ns = []; local = local }) then Some a.value else value_of local more

-- the values of an element's attributes without a namespace, by their local names
abbrev pub Values : Type 0
Values = List ℕ → Option (List ℕ)

-- the first of two that is there
abbrev pub first_of : {A : Type 0} → Option A → Option A → Option A
first_of (Some one) other = Some one
first_of None other = other

-- where a rule leads: to its `uri`, or, without one, to its type
unfoldable pub target_of : Values → Option Target
target_of value = first_of (option_map target.Uri (value (codes "uri"))) (option_map target.TypeId (value (codes "typeId")))

abbrev pub include_rule : Option (List ℕ) → Option Rule
include_rule rules = option_map Include rules

-- a rule on the URI has a `resource` or a `pattern`
abbrev pub uri_rule : Option (List ℕ) → Option (List ℕ) → Option Target → Option Rule
uri_rule None None leads = None
uri_rule None (Some pattern) leads = option_map (Uri None (Some pattern)) leads
uri_rule (Some resource) pattern leads = option_map (Uri (Some resource) pattern) leads

-- one on the document element has a `prefix` or a `localName`
abbrev pub element_rule : Option (List ℕ) → Option (List ℕ) → Option Target → Option Rule
element_rule None None leads = None
element_rule None (Some local) leads = option_map (DocumentElement None (Some local)) leads
element_rule (Some prefix) local leads = option_map (DocumentElement (Some prefix) local) leads

abbrev pub namespace_rule : Option (List ℕ) → Option Target → Option Rule
namespace_rule None leads = None
namespace_rule (Some ns) leads = option_map (Namespace ns) leads

abbrev pub default_rule : Option Target → Option Rule
default_rule leads = option_map Default leads

abbrev pub transform_rule : Option (List ℕ) → Option (List ℕ) → Option Rule
transform_rule None to = None
transform_rule (Some from) to = option_map (Transform from) to

abbrev pub type_rule : Option (List ℕ) → Option Target → Option Rule
type_rule None leads = None
type_rule (Some id) leads = option_map (TypeId id) leads

-- the rule that an element of the rules' namespace is, by its local name and its attributes; one that lacks what it needs is none
unfoldable pub rule_by : List ℕ → Values → Option Rule
rule_by local value =
    if bytes_eq local (codes "include") then include_rule (value (codes "rules"))
    else (if bytes_eq local (codes "uri") then uri_rule (value (codes "resource")) (value (codes "pattern")) (target_of value)
    else (if bytes_eq local (codes "documentElement") then element_rule (value (codes "prefix")) (value (codes "localName")) (target_of value)
    else (if bytes_eq local (codes "namespace") then namespace_rule (value (codes "ns")) (target_of value)
    else (if bytes_eq local (codes "default") then default_rule (target_of value)
    else (if bytes_eq local (codes "transformURI") then transform_rule (value (codes "fromPattern")) (value (codes "toPattern"))
    else (if bytes_eq local (codes "typeId") then type_rule (value (codes "id")) (target_of value)
    else None))))))

-- ---- all rules of a file

abbrev pub listed : {A : Type 0} → Option A → List A
listed None = []
listed (Some one) = one ∷ []

-- the child elements in the rules' namespace that are rules, in order; others, and text, are passed over
unfoldable pub rules_in : Children → List Rule
rules_in nil = []
rules_in (string text rest) = rules_in rest
rules_in (element name attributes children rest) =
    (if bytes_eq name.ns rules_namespace then listed (rule_by name.local (λ local. value_of local attributes)) else []) ++ rules_in rest

-- read without a schema, the text has no fault, and its events are those of this tree
pub record IsReadAs (text : List ℕ) (tree : Tree) : Type 0 where
  pub no_fault : faults_among (items_of_text text) ≡ []
  pub events : events_among (items_of_text text) ≡ map as_event (flat tree)

-- the text is a document of rules, and these are they
pub record HasRules (text : List ℕ) (rules : List Rule) : Type 0 where
  pub tree : Tree
  pub is_read : IsReadAs text tree
  pub root : same_name tree.name root_name ≡ true
  pub are : rules ≡ rules_in tree.children

-- read without a schema, the text has a fault or another root
abbrev pub HasNoRules : List ℕ → Type 0
HasNoRules text = (faults_among (items_of_text text) ≢ []) ⊎ ((tree : Tree) × IsReadAs text tree × (same_name tree.name root_name ≡ false))
