-- Classes of names: ISO/IEC 19757-2, section 9.2.
use Rattle.std.specs.Prelude.{ℕ, Bool, true, not, ◌&&◌, ◌||◌, List, IsTrue}
use Rattle.std.specs.Str.{bytes_eq}
use Rattle.nx_base.specs.declared.name.Name.{Name}
use Rattle.nx_base.specs.Names.{is_xml_name, is_attribute_name, same_name}

-- a class of names
pub data Class : Type 0 where
  any_name : Class
  ns_name : List ℕ → Class
  the_name : Name → Class
  either : Class → Class → Class
  without : Class → Class → Class

-- whether a class has a name, by what is written in it
abbrev pub covers : Class → Name → Bool
covers any_name name = true
covers (ns_name ns) name = bytes_eq name.ns ns
covers (the_name m) name = same_name name m
covers (either c d) name = covers c name || covers d name
covers (without c d) name = covers c name && not (covers d name)

-- the names of a class, all of them names that a document can have
abbrev pub has_name : Class → Name → Bool
has_name class name = is_xml_name name && covers class name

-- those of them that an attribute can have
abbrev pub has_attribute_name : Class → Name → Bool
has_attribute_name class name = is_attribute_name name && covers class name

-- some name is in both classes
pub record Overlap (c d : Class) : Type 0 where
  pub name : Name
  pub first : IsTrue (has_name c name)
  pub second : IsTrue (has_name d name)

-- some name that an attribute can have is in both classes
pub record AttributeOverlap (c d : Class) : Type 0 where
  pub name : Name
  pub first : IsTrue (has_attribute_name c name)
  pub second : IsTrue (has_attribute_name d name)
