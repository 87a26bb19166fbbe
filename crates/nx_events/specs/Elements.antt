-- The element of a tag and its attributes (Namespaces in XML 1.0, sections 5 and 6).
use Rattle.std.specs.Prelude.{ℕ, Bool, not, ◌&&◌, if◌then◌else◌, List, [], ◌∷◌, ◌++◌, Option, Some, None}
use Rattle.std.specs.List.{list_any}
use Rattle.std.specs.Str.{bytes_eq}
use Rattle.nx_base.specs.declared.name.Name.{Name}
use Rattle.nx_base.specs.declared.fault.Span.{Span}
use Rattle.nx_base.specs.declared.fault.Kind.{Kind}
use Rattle.nx_base.specs.declared.fault.Kind.TheVariants.{SecondRoot, BadName, UndeclaredPrefix, DuplicateAttribute}
use Rattle.nx_events.specs.Names.{is_qname, prefix_of}
use Rattle.nx_events.specs.Scopes.{expand_element, expand_attribute}
use Rattle.nx_events.specs.Faults.{fault_of}
use Rattle.nx_events.specs.Declarations.{is_declaration}
use Rattle.nx_events.specs.declared.tag.Attribute.{Attribute}
use Rattle.nx_events.specs.declared.scope.Binding.{Binding}
use Rattle.nx_events.specs.declared.flaw.Resolved.{Resolved}
use Rattle.nx_events.specs.declared.flaw.Resolved.TheVariants.{Named, Flawed}
use Rattle.nx_events.specs.declared.item.Item.{Item}
use Rattle.nx_events.specs.declared.item.Item.TheVariants as items
use Rattle.nx_events.specs.declared.item.Event.TheVariants.{Enter, EnterLost, Att}

abbrev pub flawed_as : Kind → List ℕ → Resolved
flawed_as kind detail = Flawed (record { kind = kind; detail = detail })

-- a name, or that its prefix is undeclared (section 5, Prefix Declared)
abbrev pub declared_or_flaw : Option Name → List ℕ → Resolved
declared_or_flaw (Some name) written = Named name
declared_or_flaw None written = flawed_as UndeclaredPrefix (prefix_of written)

-- the element's name: behind the root's end no element may stand (XML 1.0, 2.1 [1])
unfoldable pub element_resolved : Bool → List Binding → List ℕ → Resolved
element_resolved behind_root scope written =
    if behind_root then flawed_as SecondRoot written
    else (if not (is_qname written) then flawed_as BadName written
    else declared_or_flaw (expand_element scope written) written)

abbrev pub element_items : Span → Resolved → List Item
element_items span (Named name) = items.Event (Enter name) span ∷ []
element_items span (Flawed flaw) = items.Fault (fault_of span flaw) ∷ items.Event EnterLost span ∷ []

-- two expanded names are one
abbrev pub is_same_name : Name → Name → Bool
is_same_name a b = bytes_eq a.ns b.ns && bytes_eq a.local b.local

abbrev pub has_name : List Name → Name → Bool
has_name kept name = list_any (λ other. is_same_name other name) kept

-- a name that none of those kept before has (section 6.3); one written name has one expanded name
unfoldable pub new_or_flaw : List Name → Resolved → List ℕ → Resolved
new_or_flaw kept (Named name) written =
    if has_name kept name
    then flawed_as DuplicateAttribute written else Named name
new_or_flaw kept (Flawed flaw) written = Flawed flaw

-- the name of an attribute behind those kept
unfoldable pub attribute_resolved : List Binding → List Name → List ℕ → Resolved
attribute_resolved scope kept written =
    if not (is_qname written) then flawed_as BadName written
    else new_or_flaw kept (declared_or_flaw (expand_attribute scope written) written) written

-- an attribute that isn't a declaration, resolved
unfoldable pub resolved_if_attribute : List Binding → List Name → Attribute → Option Resolved
resolved_if_attribute scope kept it =
    if is_declaration it.name then None else Some (attribute_resolved scope kept it.name)

-- the same in two steps: the name by its prefix, and whether it is new
unfoldable pub attribute_declared : List Binding → List ℕ → Resolved
attribute_declared scope written =
    if not (is_qname written) then flawed_as BadName written
    else declared_or_flaw (expand_attribute scope written) written

unfoldable pub declared_if_attribute : List Binding → Attribute → Option Resolved
declared_if_attribute scope it = if is_declaration it.name then None else Some (attribute_declared scope it.name)

-- what it gives, and the name that it keeps
abbrev pub attribute_item : Attribute → Option Resolved → List Item
attribute_item it None = []
attribute_item it (Some (Named name)) = items.Event (Att name it.string) it.value ∷ []
attribute_item it (Some (Flawed flaw)) = items.Fault (fault_of it.span flaw) ∷ []

abbrev pub kept_name : Option Resolved → List Name
kept_name None = []
kept_name (Some (Named name)) = name ∷ []
kept_name (Some (Flawed flaw)) = []

-- the items of attributes behind those that kept these names
unfoldable pub attribute_items : List Binding → List Name → List Attribute → List Item
attribute_items scope kept [] = []
attribute_items scope kept (it ∷ others) =
    attribute_item it (resolved_if_attribute scope kept it)
    ++ attribute_items scope (kept ++ kept_name (resolved_if_attribute scope kept it)) others
