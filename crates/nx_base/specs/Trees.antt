-- Finished trees, and their events in order.
use Rattle.std.specs.Prelude.{◌≡◌, ℕ, List, [], ◌∷◌, if◌then◌else◌, IsTrue}
use Rattle.std.specs.List.{AllByRecursion}
use Rattle.nx_base.specs.declared.name.Name.{Name}
use Rattle.nx_base.specs.Characters.{is_blank, is_of_chars}
use Rattle.nx_base.specs.Names.{is_xml_name, is_attribute_name}

-- an attribute of an element
pub record Attribute : Type 0 where
  pub name : Name
  pub value : List ℕ

-- children in a row: none, or a string and more, or an element and more
pub data Children : Type 0 where
  nil : Children
  string : (text : List ℕ) (rest : Children) → Children
  element : (name : Name) (attributes : List Attribute) (children rest : Children) → Children

-- an element with all that is in it
pub record Tree : Type 0 where
  pub name : Name
  pub attributes : List Attribute
  pub children : Children

-- the children without their blank strings; what stands inside of elements stays
abbrev pub without_blanks : Children → Children
without_blanks nil = nil
without_blanks (string text rest) = if is_blank text then without_blanks rest else string text (without_blanks rest)
without_blanks (element name attributes children rest) = element name attributes children (without_blanks rest)

-- these strings as children
abbrev pub strings : List (List ℕ) → Children
strings [] = nil
strings (text ∷ texts) = string text (strings texts)

-- some attribute has the name
pub data HasAttribute (name : Name) : List Attribute → Type 0 where
  here : {a : Attribute} {more : List Attribute} → a.name ≡ name → HasAttribute name (a ∷ more)
  further : {a : Attribute} {more : List Attribute} → HasAttribute name more → HasAttribute name (a ∷ more)

-- attributes with names that attributes can have, no two the same
pub data AreAttributes : List Attribute → Type 0 where
  no_attributes : AreAttributes []
  one_more : {a : Attribute} {more : List Attribute} → IsTrue (is_attribute_name a.name) → (HasAttribute a.name more → ⊥)
      → AreAttributes more → AreAttributes (a ∷ more)

-- children with names that a document can have, and attributes of which no two of one element have the same
pub data AreChildren : Children → Type 0 where
  no_children : AreChildren nil
  string_first : {text : List ℕ} {rest : Children} → AreChildren rest → AreChildren (string text rest)
  element_first : {name : Name} {attributes : List Attribute} {children rest : Children} → IsTrue (is_xml_name name)
      → AreAttributes attributes → AreChildren children → AreChildren rest → AreChildren (element name attributes children rest)

-- the events of a text, in order
pub data Event : Type 0 where
  Enter : Name → Event
  Att : Name → List ℕ → Event
  TagEnd : Event
  Chars : List ℕ → Event
  Leave : Event

-- the events of attributes, and then these
abbrev pub attributes_flat : List Attribute → List Event → List Event
attributes_flat [] after = after
attributes_flat (a ∷ more) after = Att a.name a.value ∷ attributes_flat more after

-- the events of children, and then these
abbrev pub children_flat : Children → List Event → List Event
children_flat nil after = after
children_flat (string text rest) after = Chars text ∷ children_flat rest after
children_flat (element name attributes children rest) after =
    Enter name ∷ attributes_flat attributes (TagEnd ∷ children_flat children (Leave ∷ children_flat rest after))

-- a tree alone, as children
abbrev pub alone : Tree → Children
alone tree = element tree.name tree.attributes tree.children nil

-- the events of one tree
abbrev pub flat : Tree → List Event
flat tree = children_flat (alone tree) []

-- an event with a name that a document can have, and with strings of characters that XML allows
abbrev pub IsWritable : Event → Type 0
IsWritable (Enter name) = IsTrue (is_xml_name name)
IsWritable (Att name value) = IsTrue (is_attribute_name name) × IsTrue (is_of_chars value)
IsWritable TagEnd = Unit {0}
IsWritable (Chars text) = IsTrue (is_of_chars text)
IsWritable Leave = Unit {0}

abbrev pub AreWritable : List Event → Type 0
AreWritable events = AllByRecursion IsWritable events
