-- Name classes as a file gives them, and those that no schema may have: ISO/IEC 19757-2, sections 7.9 and 7.17.
use Rattle.std.specs.Prelude.{ℕ, Bool, true, false, ◌||◌, ◌&&◌, List, [], codes}
use Rattle.std.specs.Str.{bytes_eq}
use Rattle.nx_base.specs.Names.{xmlns_namespace}
use Rattle.rnc_parse.specs.declared.surface.Namespace.{Namespace}
use Rattle.rnc_parse.specs.declared.surface.Namespace.TheVariants as namespace
use Rattle.rnc_parse.specs.Written.{WrittenClass}
use Rattle.rnc_parse.specs.Written as written
use Rattle.rng_core.specs.Names.{Class, any_name, ns_name, the_name, either, without}

-- a namespace of a file, where the file inherits this one
abbrev pub namespace_in : List ℕ → Namespace → List ℕ
namespace_in inherited namespace.Inherited = inherited
namespace_in inherited (namespace.Uri uri) = uri

-- its class. A choice of no class, which no text is, stands for one that no schema may have
abbrev pub class_in : List ℕ → WrittenClass → Class
class_in inherited written.every_name = any_name
class_in inherited (written.names_in ns) = ns_name (namespace_in inherited ns)
class_in inherited (written.the_name ns local) = the_name (record { ns = namespace_in inherited ns; local = local })
class_in inherited written.no_name = without any_name any_name
class_in inherited (written.either c d) = either (class_in inherited c) (class_in inherited d)
class_in inherited (written.without c d) = without (class_in inherited c) (class_in inherited d)

-- ---- a wildcard that is taken from a wildcard

abbrev pub has_any_name : Class → Bool
has_any_name any_name = true
has_any_name (ns_name ns) = false
has_any_name (the_name name) = false
has_any_name (either c d) = has_any_name c || has_any_name d
has_any_name (without c d) = has_any_name c || has_any_name d

abbrev pub has_ns_name : Class → Bool
has_ns_name any_name = false
has_ns_name (ns_name ns) = true
has_ns_name (the_name name) = false
has_ns_name (either c d) = has_ns_name c || has_ns_name d
has_ns_name (without c d) = has_ns_name c || has_ns_name d

-- what may not be taken from the class: from all names a class with all names in it, from those of a namespace one with either
-- wildcard, and from another class anything
abbrev pub may_not_lose : Class → Class → Bool
may_not_lose any_name except = has_any_name except
may_not_lose (ns_name ns) except = has_any_name except || has_ns_name except
may_not_lose (the_name name) except = true
may_not_lose (either c d) except = true
may_not_lose (without c d) except = true

abbrev pub has_bad_except : Class → Bool
has_bad_except any_name = false
has_bad_except (ns_name ns) = false
has_bad_except (the_name name) = false
has_bad_except (either c d) = has_bad_except c || has_bad_except d
has_bad_except (without c d) = may_not_lose c d || (has_bad_except c || has_bad_except d)

-- ---- names that belong to namespace declarations

-- the namespace without its last `/`, as the standard has it for attributes
abbrev pub xmlns_without_slash : List ℕ
xmlns_without_slash = codes "http://www.w3.org/2000/xmlns"

-- whether the namespace is written in the class, alone or in a name
abbrev pub names_namespace : List ℕ → Class → Bool
names_namespace ns any_name = false
names_namespace ns (ns_name of) = bytes_eq of ns
names_namespace ns (the_name name) = bytes_eq name.ns ns
names_namespace ns (either c d) = names_namespace ns c || names_namespace ns d
names_namespace ns (without c d) = names_namespace ns c || names_namespace ns d

-- whether the name `xmlns` in no namespace is
abbrev pub names_xmlns : Class → Bool
names_xmlns any_name = false
names_xmlns (ns_name ns) = false
names_xmlns (the_name name) = bytes_eq name.ns [] && bytes_eq name.local (codes "xmlns")
names_xmlns (either c d) = names_xmlns c || names_xmlns d
names_xmlns (without c d) = names_xmlns c || names_xmlns d

-- no class may have anything in the namespace of the prefix `xmlns`
abbrev pub names_declarations : Class → Bool
names_declarations class = names_namespace xmlns_namespace class

-- and an attribute's none in that without the slash, nor the name `xmlns`
abbrev pub names_declarations_of_attribute : Class → Bool
names_declarations_of_attribute class =
    names_declarations class || (names_namespace xmlns_without_slash class || names_xmlns class)
