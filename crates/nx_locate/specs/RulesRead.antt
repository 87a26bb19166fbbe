-- How rules are read from the items of a text.
use Rattle.std.specs.Prelude.{◌≡◌, ℕ, ◌+◌, ◌-◌, Bool, true, false, ◌==◌, if◌then◌else◌, List, [], ◌∷◌, ◌++◌, Option, Some, None, Vec, IsUtf8}
use Rattle.std.specs.declared.alloc.Global.{Global}
use Rattle.std.specs.List.{AllByRecursion}
use Rattle.std.specs.Str.{bytes_eq}
use Rattle.nx_base.specs.Names.{same_name}
use Rattle.nx_base.specs.declared.name.Name.{Name}
use Rattle.nx_events.specs.declared.item.Event.TheVariants.{Enter, EnterLost, Att, TagEnd, Chars, Leave}
use Rattle.nx_events.specs.declared.item.Item.{Item}
use Rattle.nx_events.specs.declared.item.Item.TheVariants as items
use Rattle.nx_locate.specs.declared.rule.Rule.{Rule}
use Rattle.nx_locate.specs.declared.rule.Rule.TheVariants.{Include, Uri, DocumentElement, Namespace, Default, Transform, TypeId}
use Rattle.nx_locate.specs.declared.rule.Target.{Target}
use Rattle.nx_locate.specs.declared.rule.Target.TheVariants as target
use Rattle.nx_locate.specs.Rules.{rules_namespace, root_name, rule_by, listed, HasRules, HasNoRules}

-- the name of the element that begins
abbrev pub entered : Item → Option Name
entered (items.Event (Enter name) span) = Some name
entered (items.Event EnterLost span) = None
entered (items.Event (Att name value) span) = None
entered (items.Event TagEnd span) = None
entered (items.Event (Chars string) span) = None
entered (items.Event Leave span) = None
entered (items.Fault fault) = None

abbrev pub is_fault : Item → Bool
is_fault (items.Event event span) = false
is_fault (items.Fault fault) = true

-- the name and the value of the attribute that an item is
abbrev pub attribute_in : Item → Option (Name × List ℕ)
attribute_in (items.Event (Att name value) span) = Some (name, value)
attribute_in (items.Event (Enter name) span) = None
attribute_in (items.Event EnterLost span) = None
attribute_in (items.Event TagEnd span) = None
attribute_in (items.Event (Chars string) span) = None
attribute_in (items.Event Leave span) = None
attribute_in (items.Fault fault) = None

-- its value where it has this local name in no namespace, otherwise what follows; none where it is no attribute
abbrev pub value_or : List ℕ → Option (Name × List ℕ) → Option (List ℕ) → Option (List ℕ)
value_or local None behind = None
value_or local (Some attribute) behind =
    if same_name attribute.0 (record { ns = []; local = local }) then Some attribute.1 else behind

-- the value of the attribute with this local name in no namespace, among the attributes with which the items begin
unfoldable pub value_among : List ℕ → List Item → Option (List ℕ)
value_among local [] = None
value_among local (item ∷ more) = value_or local (attribute_in item) (value_among local more)

-- the rule of the element that begins, its attributes behind it
abbrev pub rule_entered : Option Name → List Item → List Rule
rule_entered None behind = []
rule_entered (Some name) behind =
    if bytes_eq name.ns rules_namespace then listed (rule_by name.local (λ local. value_among local behind)) else []

-- inside of the root alone
abbrev pub rule_at : ℕ → Item → List Item → List Rule
rule_at depth item behind = if depth == 1 then rule_entered (entered item) behind else []

-- how many elements are open behind an item
abbrev pub depth_behind : ℕ → Item → ℕ
depth_behind depth (items.Event (Enter name) span) = depth + 1
depth_behind depth (items.Event EnterLost span) = depth + 1
depth_behind depth (items.Event (Att name value) span) = depth
depth_behind depth (items.Event TagEnd span) = depth
depth_behind depth (items.Event (Chars string) span) = depth
depth_behind depth (items.Event Leave span) = depth - 1
depth_behind depth (items.Fault fault) = depth

-- the rules of items that stand in so many elements
unfoldable pub rules_from : ℕ → List Item → List Rule
rules_from depth [] = []
rules_from depth (item ∷ behind) = rule_at depth item behind ++ rules_from (depth_behind depth item) behind

-- the items begin with the root of a rules file
abbrev pub is_root : Option Name → Bool
is_root None = false
is_root (Some name) = same_name name root_name

abbrev pub begins_rules : List Item → Bool
begins_rules [] = false
begins_rules (item ∷ behind) = is_root (entered item)

-- the rules of a text, or that it has none
abbrev pub FindsRules : List ℕ → Option (Vec Rule Global) → Type 0
FindsRules text None = HasNoRules text
FindsRules text (Some rules) = HasRules text rules.items

-- ---- texts

abbrev pub IsTextIfGiven : Option (List ℕ) → Type 0
IsTextIfGiven None = Unit {0}
IsTextIfGiven (Some text) = IsUtf8 text

abbrev pub IsTextTarget : Target → Type 0
IsTextTarget (target.Uri text) = IsUtf8 text
IsTextTarget (target.TypeId id) = IsUtf8 id

-- what a rule holds is UTF-8
abbrev pub IsTextRule : Rule → Type 0
IsTextRule (Include text) = IsUtf8 text
IsTextRule (Uri resource pattern leads) = IsTextIfGiven resource × IsTextIfGiven pattern × IsTextTarget leads
IsTextRule (DocumentElement prefix local leads) = IsTextTarget leads
IsTextRule (Namespace ns leads) = IsTextTarget leads
IsTextRule (Default leads) = IsTextTarget leads
IsTextRule (Transform from to) = IsUtf8 from × IsUtf8 to
IsTextRule (TypeId id leads) = IsTextTarget leads

abbrev pub AreTextRules : List Rule → Type 0
AreTextRules rules = AllByRecursion IsTextRule rules
