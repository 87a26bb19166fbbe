-- Names that the classes of a schema mention, and names that they can't tell apart.
use Rattle.std.specs.Prelude.{◌≡◌, ◌⊎◌, ℕ, Bool, false, ◌||◌, List, Some, slice_get}
use Rattle.std.specs.Str.{bytes_eq}
use Rattle.nx_base.specs.declared.name.Name.{Name}
use Rattle.nx_base.specs.Names.{same_name}
use Rattle.rng_core.specs.Names.{Class, any_name, ns_name, the_name, either, without}
use Rattle.rng_core.specs.Patterns.{Pattern, Definition, attribute, one_or_more, choice, group, interleave}

abbrev pub class_mentions : Class → Name → Bool
class_mentions any_name n = false
class_mentions (ns_name of) n = false
class_mentions (the_name m) n = same_name n m
class_mentions (either c d) n = class_mentions c n || class_mentions d n
class_mentions (without c d) n = class_mentions c n || class_mentions d n

abbrev pub class_mentions_ns : Class → List ℕ → Bool
class_mentions_ns any_name ns = false
class_mentions_ns (ns_name of) ns = bytes_eq ns of
class_mentions_ns (the_name m) ns = bytes_eq ns m.ns
class_mentions_ns (either c d) ns = class_mentions_ns c ns || class_mentions_ns d ns
class_mentions_ns (without c d) ns = class_mentions_ns c ns || class_mentions_ns d ns

-- the class is that of an attribute in a pattern
pub data IsAttributesOf (class : Class) : Pattern → Type 0 where
  itself : {p : Pattern} → IsAttributesOf class (attribute class p)
  of_one_or_more : {p : Pattern} → IsAttributesOf class p → IsAttributesOf class (one_or_more p)
  of_first_choice : {p q : Pattern} → IsAttributesOf class p → IsAttributesOf class (choice p q)
  of_second_choice : {p q : Pattern} → IsAttributesOf class q → IsAttributesOf class (choice p q)
  of_first_of_group : {p q : Pattern} → IsAttributesOf class p → IsAttributesOf class (group p q)
  of_second_of_group : {p q : Pattern} → IsAttributesOf class q → IsAttributesOf class (group p q)
  of_first_of_interleave : {p q : Pattern} → IsAttributesOf class p → IsAttributesOf class (interleave p q)
  of_second_of_interleave : {p q : Pattern} → IsAttributesOf class q → IsAttributesOf class (interleave p q)

-- the class is that of a definition's elements, or of attributes in its content
pub data IsClassOf (class : Class) (d : Definition) : Type 0 where
  of_elements : d.class ≡ class → IsClassOf class d
  of_attributes : IsAttributesOf class d.content → IsClassOf class d

-- no class of the definitions mentions the name
abbrev pub IsUnmentioned : List Definition → Name → Type 0
IsUnmentioned g n = (i : ℕ) (d : Definition) (class : Class) → slice_get g i ≡ Some d → IsClassOf class d → class_mentions class n ≡ false

abbrev pub IsUnmentionedNamespace : List Definition → List ℕ → Type 0
IsUnmentionedNamespace g ns =
    (i : ℕ) (d : Definition) (class : Class) → slice_get g i ≡ Some d → IsClassOf class d → class_mentions_ns class ns ≡ false

-- no class mentions either of two names, and they are of one namespace or of namespaces that none mentions
pub record AreUnmentionedAlike (g : List Definition) (n m : Name) : Type 0 where
  pub first : IsUnmentioned g n
  pub second : IsUnmentioned g m
  pub namespaces : (n.ns ≡ m.ns) ⊎ (IsUnmentionedNamespace g n.ns × IsUnmentionedNamespace g m.ns)
