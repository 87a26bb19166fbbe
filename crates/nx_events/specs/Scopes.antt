-- Namespace declarations in force (Namespaces in XML 1.0, sections 3, 5 and 6).
use Rattle.std.specs.Prelude.{ℕ, if◌then◌else◌, List, [], ◌∷◌, Option, Some, None, unwrap_or, codes}
use Rattle.std.specs.Str.{bytes_eq}
use Rattle.nx_base.specs.declared.name.Name.{Name}
pub use Rattle.nx_events.specs.Choices.{or_else}
use Rattle.nx_events.specs.Names.{prefix_of, local_of}
use Rattle.nx_events.specs.declared.scope.Binding.{Binding}

-- the prefix `xml` has this URI always (section 3)
abbrev pub xml_uri : List ℕ
xml_uri = codes "http://www.w3.org/XML/1998/namespace"

-- the URI of the last pair of the prefix
unfoldable pub last_uri : List Binding → List ℕ → Option (List ℕ)
last_uri [] prefix = None
last_uri (binding ∷ scope) prefix =
    or_else (last_uri scope prefix) (if bytes_eq binding.prefix prefix then Some binding.uri else None)

-- the URI that the prefix is bound to
unfoldable pub bound_uri : List Binding → List ℕ → Option (List ℕ)
bound_uri scope prefix = if bytes_eq prefix (codes "xml") then Some xml_uri else last_uri scope prefix

-- the URI of an element's prefix: the default namespace, or none, where it has no prefix (section 6.2)
unfoldable pub element_uri : List Binding → List ℕ → Option (List ℕ)
element_uri scope [] = Some (unwrap_or (last_uri scope []) [])
element_uri scope (b ∷ prefix) = bound_uri scope (b ∷ prefix)

-- the URI of an attribute's prefix: no namespace where it has no prefix (section 6.2)
unfoldable pub attribute_uri : List Binding → List ℕ → Option (List ℕ)
attribute_uri scope [] = Some []
attribute_uri scope (b ∷ prefix) = bound_uri scope (b ∷ prefix)

-- the name with its prefix's URI, if that is bound
abbrev pub named_by : Option (List ℕ) → List ℕ → Option Name
named_by None local = None
named_by (Some uri) local = Some (record { ns = uri; local = local })

-- the expanded names (section 2.1)
abbrev pub expand_element : List Binding → List ℕ → Option Name
expand_element scope written = named_by (element_uri scope (prefix_of written)) (local_of written)

abbrev pub expand_attribute : List Binding → List ℕ → Option Name
expand_attribute scope written = named_by (attribute_uri scope (prefix_of written)) (local_of written)
