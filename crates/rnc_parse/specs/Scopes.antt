-- What prefixes stand for, and declarations that are in order: ISO/IEC 19757-2, Annex C.
use Rattle.std.specs.Prelude.{◌≡◌, ◌≢◌, ℕ, ◌<◌, if◌then◌else◌, ◌⊎◌, List, [], ◌∷◌, codes, slice_get, Option, Some, None}
use Rattle.std.specs.Str.{bytes_eq}
use Rattle.rnc_parse.specs.declared.declaration.Declaration.{Declaration}
use Rattle.rnc_parse.specs.declared.declaration.Declaration.TheVariants as declaration
use Rattle.rnc_parse.specs.declared.surface.Namespace.{Namespace}
use Rattle.rnc_parse.specs.declared.surface.Namespace.TheVariants.{Inherited, Uri}

-- what stands for what: a prefix of names for a namespace, no prefix for another, a prefix of types for the URI of a
-- library
pub record Scope : Type 0 where
  pub namespace : List ℕ → Option Namespace
  pub unprefixed : Namespace
  pub library : List ℕ → Option (List ℕ)

-- a prefix that is used for names or behind `inherit =`, or for types
pub data Use : Type 0 where
  of_names : List ℕ → Use
  of_types : List ℕ → Use

abbrev pub prefix_of : Use → List ℕ
prefix_of (of_names prefix) = prefix
prefix_of (of_types prefix) = prefix

-- the prefix stands for nothing
abbrev pub IsUndeclared : Scope → Use → Type 0
IsUndeclared scope (of_names prefix) = scope.namespace prefix ≡ None
IsUndeclared scope (of_types prefix) = scope.library prefix ≡ None

-- ---- what the declarations of a file say

abbrev pub xml_uri : List ℕ
xml_uri = codes "http://www.w3.org/XML/1998/namespace"

abbrev pub xsd_uri : List ℕ
xsd_uri = codes "http://www.w3.org/2001/XMLSchema-datatypes"

-- the namespace that the first declaration of the prefix binds it to
abbrev pub declared_namespace : List Declaration → List ℕ → Option Namespace
declared_namespace [] prefix = None
declared_namespace (declaration.Namespace bound ns ∷ more) prefix =
    if bytes_eq bound prefix then Some ns else declared_namespace more prefix
declared_namespace (declaration.Default (Some bound) ns ∷ more) prefix =
    if bytes_eq bound prefix then Some ns else declared_namespace more prefix
declared_namespace (declaration.Default None ns ∷ more) prefix = declared_namespace more prefix
declared_namespace (declaration.Datatypes bound uri ∷ more) prefix = declared_namespace more prefix

-- a file without a default takes the namespace that it inherits
abbrev pub declared_default : List Declaration → Namespace
declared_default [] = Inherited
declared_default (declaration.Namespace bound ns ∷ more) = declared_default more
declared_default (declaration.Default bound ns ∷ more) = ns
declared_default (declaration.Datatypes bound uri ∷ more) = declared_default more

abbrev pub declared_library : List Declaration → List ℕ → Option (List ℕ)
declared_library [] prefix = None
declared_library (declaration.Namespace bound ns ∷ more) prefix = declared_library more prefix
declared_library (declaration.Default bound ns ∷ more) prefix = declared_library more prefix
declared_library (declaration.Datatypes bound uri ∷ more) prefix = if bytes_eq bound prefix then Some uri else declared_library more prefix

-- `xml` is bound without a declaration
abbrev pub namespace_in : List Declaration → List ℕ → Option Namespace
namespace_in declarations prefix = if bytes_eq prefix (codes "xml") then Some (Uri xml_uri) else declared_namespace declarations prefix

abbrev pub or_else : {A : Type 0} → Option A → Option A → Option A
or_else (Some x) other = Some x
or_else None other = other

-- and `xsd` is a library unless another is declared
abbrev pub library_in : List Declaration → List ℕ → Option (List ℕ)
library_in declarations prefix =
    or_else (declared_library declarations prefix) (if bytes_eq prefix (codes "xsd") then Some xsd_uri else None)

abbrev pub scope_of : List Declaration → Scope
scope_of declarations =
    record { namespace = namespace_in declarations; unprefixed = declared_default declarations; library = library_in declarations }

-- ---- declarations in order

-- what a declaration binds
pub data Binding : Type 0 where
  a_namespace : List ℕ → Binding
  a_library : List ℕ → Binding
  the_default : Binding

-- what stands there for the binding: nothing for the default
abbrev pub bound_prefix : Binding → List ℕ
bound_prefix (a_namespace prefix) = prefix
bound_prefix (a_library prefix) = prefix
bound_prefix the_default = []

abbrev pub bindings : List Declaration → List Binding
bindings [] = []
bindings (declaration.Namespace prefix ns ∷ more) = a_namespace prefix ∷ bindings more
bindings (declaration.Default (Some prefix) ns ∷ more) = the_default ∷ a_namespace prefix ∷ bindings more
bindings (declaration.Default None ns ∷ more) = the_default ∷ bindings more
bindings (declaration.Datatypes prefix uri ∷ more) = a_library prefix ∷ bindings more

-- the binding is made at two places
pub record IsMadeTwice (made : List Binding) (binding : Binding) : Type 0 where
  pub first : ℕ
  pub second : ℕ
  pub apart : first < second
  pub there : slice_get made first ≡ Some binding
  pub again : slice_get made second ≡ Some binding

-- some declaration binds the prefix to the namespace
abbrev pub Binds : List Declaration → List ℕ → Namespace → Type 0
Binds [] prefix ns = ⊥
Binds (declaration.Namespace bound to ∷ more) prefix ns = ((bound ≡ prefix) × (to ≡ ns)) ⊎ Binds more prefix ns
Binds (declaration.Default (Some bound) to ∷ more) prefix ns = ((bound ≡ prefix) × (to ≡ ns)) ⊎ Binds more prefix ns
Binds (declaration.Default None to ∷ more) prefix ns = Binds more prefix ns
Binds (declaration.Datatypes bound uri ∷ more) prefix ns = Binds more prefix ns

-- the prefix, empty for the default, is declared twice, or it is `xmlns`, or `xml` with another namespace than its own
pub data IsDeclaredTwice (declarations : List Declaration) : List ℕ → Type 0 where
  made_twice : {binding : Binding} → IsMadeTwice (bindings declarations) binding → IsDeclaredTwice declarations (bound_prefix binding)
  xmlns_declared : (ns : Namespace) → Binds declarations (codes "xmlns") ns → IsDeclaredTwice declarations (codes "xmlns")
  xml_declared_otherwise : (ns : Namespace) → Binds declarations (codes "xml") ns → ns ≢ Uri xml_uri →
      IsDeclaredTwice declarations (codes "xml")

-- no prefix is
abbrev pub AreInOrder : List Declaration → Type 0
AreInOrder declarations = (prefix : List ℕ) → IsDeclaredTwice declarations prefix → ⊥
