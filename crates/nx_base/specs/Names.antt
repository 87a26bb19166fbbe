-- Names that a document can have: Namespaces in XML 1.0, sections 2.1, 3 and 6.
use Rattle.std.specs.Prelude.{ℕ, Bool, not, ◌&&◌, List, [], codes}
use Rattle.std.specs.Str.{chars, bytes_eq, is_utf8}
use Rattle.nx_base.specs.Characters.{is_of_chars, is_nc_name}
use Rattle.nx_base.specs.declared.name.Name.{Name}

-- the namespace in which the prefix xmlns is
abbrev pub xmlns_namespace : List ℕ
xmlns_namespace = codes "http://www.w3.org/2000/xmlns/"

-- a namespace that names can be in
abbrev pub is_namespace : List ℕ → Bool
is_namespace ns = is_of_chars ns && not (bytes_eq ns xmlns_namespace)

-- an NCName: section 3
abbrev pub is_local : List ℕ → Bool
is_local local = is_utf8 local && is_nc_name (chars local)

-- a name that an element can have
abbrev pub is_xml_name : Name → Bool
is_xml_name name = is_namespace name.ns && is_local name.local

-- and one that an attribute can have: it isn't `xmlns` in no namespace, which is a declaration
abbrev pub is_attribute_name : Name → Bool
is_attribute_name name = is_xml_name name && not (bytes_eq name.ns [] && bytes_eq name.local (codes "xmlns"))

abbrev pub same_name : Name → Name → Bool
same_name a b = bytes_eq a.ns b.ns && bytes_eq a.local b.local
