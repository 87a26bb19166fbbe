-- The namespace declarations of a tag (Namespaces in XML 1.0, sections 2.2, 3 and 5; XML 1.0, 3.1, Unique Att Spec).
use Rattle.std.specs.Prelude.{ℕ, Bool, not, ◌&&◌, ◌||◌, ◌==◌, nat_eq, if◌then◌else◌, List, [], ◌∷◌, ◌++◌, length, drop, Option, Some}
use Rattle.std.specs.Prelude.{None, codes}
use Rattle.std.specs.List.{starts_with, list_any}
use Rattle.std.specs.Str.{bytes_eq}
use Rattle.nx_base.specs.declared.fault.Fault.{Fault}
use Rattle.nx_base.specs.declared.fault.Span.{Span}
use Rattle.nx_base.specs.declared.fault.Kind.{Kind}
use Rattle.nx_base.specs.declared.fault.Kind.TheVariants.{DuplicateAttribute, BadName, BadBinding}
use Rattle.nx_events.specs.Faults.{fault_of}
use Rattle.nx_events.specs.Names.{is_qname}
use Rattle.nx_base.specs.Names.{xmlns_namespace}
use Rattle.nx_events.specs.Scopes.{xml_uri}
use Rattle.nx_events.specs.declared.tag.Attribute.{Attribute}
use Rattle.nx_events.specs.declared.scope.Binding.{Binding}
use Rattle.nx_events.specs.declared.flaw.Flaw.{Flaw}

-- a declaration: `xmlns`, or a name that begins with `xmlns:` (section 3)
unfoldable pub is_declaration : List ℕ → Bool
is_declaration name = bytes_eq name (codes "xmlns") || starts_with nat_eq name (codes "xmlns:")

-- the prefix that it declares, empty for the default namespace
unfoldable pub declared_prefix : List ℕ → List ℕ
declared_prefix name = drop 6 name

-- this prefix may not be bound to this URI (section 3, Reserved Prefixes and Namespace Names; section 5, No Prefix Undeclaring)
unfoldable pub is_bad_binding : List ℕ → List ℕ → Bool
is_bad_binding prefix uri =
    bytes_eq prefix (codes "xmlns")
    || (bytes_eq prefix (codes "xml") && not (bytes_eq uri xml_uri))
    || (not (bytes_eq prefix (codes "xml")) && bytes_eq uri xml_uri)
    || bytes_eq uri xmlns_namespace
    || (not (length prefix == 0) && length uri == 0)

-- an attribute of this name is among these
abbrev pub has_attribute : List Attribute → List ℕ → Bool
has_attribute attributes name = list_any (λ other. bytes_eq other.name name) attributes

-- what is wrong with a declaration, by whether its name came before in its tag
abbrev pub flaw_if : Bool → Attribute → Option Kind
flaw_if came it =
    if came then Some DuplicateAttribute
    else (if not (is_qname it.name) then Some BadName
    else (if is_bad_binding (declared_prefix it.name) it.string then Some BadBinding
    else None))

-- behind the attributes `before` of its tag
unfoldable pub flaw_kind : List Attribute → Attribute → Option Kind
flaw_kind before it = flaw_if (has_attribute before it.name) it

-- the same with the written name
abbrev pub with_name : List ℕ → Option Kind → Option Flaw
with_name name None = None
with_name name (Some kind) = Some (record { kind = kind; detail = name })

abbrev pub declaration_flaw : List Attribute → Attribute → Option Flaw
declaration_flaw before it = with_name it.name (flaw_kind before it)

-- the fault of a declaration, if there is one; and the pair that it declares, if there is none
abbrev pub flaw_faults : Span → Option Flaw → List Fault
flaw_faults span None = []
flaw_faults span (Some flaw) = fault_of span flaw ∷ []

abbrev pub binding_unless : Attribute → Option Flaw → List Binding
binding_unless it None = (record { prefix = declared_prefix it.name; uri = it.string }) ∷ []
binding_unless it (Some flaw) = []

-- the same of any attribute behind others
unfoldable pub faults_at : List Attribute → Attribute → List Fault
faults_at before it = if is_declaration it.name then flaw_faults it.span (declaration_flaw before it) else []

unfoldable pub bindings_at : List Attribute → Attribute → List Binding
bindings_at before it = if is_declaration it.name then binding_unless it (declaration_flaw before it) else []

-- the faults of the declarations among attributes behind those `before`, and the pairs that they declare
unfoldable pub declaration_faults : List Attribute → List Attribute → List Fault
declaration_faults before [] = []
declaration_faults before (it ∷ others) = faults_at before it ++ declaration_faults (before ++ it ∷ []) others

unfoldable pub bindings : List Attribute → List Attribute → List Binding
bindings before [] = []
bindings before (it ∷ others) = bindings_at before it ++ bindings (before ++ it ∷ []) others
