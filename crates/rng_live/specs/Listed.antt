-- What a schema mentions, and which literals stand in it.
use Rattle.std.specs.Prelude.{◌≡◌, ◌↔◌, ℕ, List, [], Some, slice_get, IsTrue, Contains}
use Rattle.std.specs.List.Sorted.{IsStrictlySortedBy}
use Rattle.nx_base.specs.declared.name.Name.{Name}
use Rattle.rng_types.specs.declared.datatype.Datatype.{Datatype}
use Rattle.rng_core.specs.Names.{Class}
use Rattle.rng_core.specs.Patterns.{Definition, literal}
use Rattle.rng_restrict.specs.Standing.{Stands}
use Rattle.rng_kept.specs.Mentioned.{IsClassOf, class_mentions, class_mentions_ns}
use Rattle.rng_live.specs.Order.{text_order, name_order}

-- a class of one of the definitions mentions the name
pub record Mentions (g : List Definition) (n : Name) : Type 0 where
  pub number : ℕ
  pub definition : Definition
  pub class : Class
  pub is : slice_get g number ≡ Some definition
  pub of_definition : IsClassOf class definition
  pub mentioned : IsTrue (class_mentions class n)

-- a class of one of the definitions mentions the namespace, by itself or with a name
pub record MentionsNamespace (g : List Definition) (ns : List ℕ) : Type 0 where
  pub number : ℕ
  pub definition : Definition
  pub class : Class
  pub is : slice_get g number ≡ Some definition
  pub of_definition : IsClassOf class definition
  pub mentioned : IsTrue (class_mentions_ns class ns)

-- the text is the literal of a value pattern in one of the contents. None stands in the start of a checked grammar, which
-- has references alone
pub record HasLiteral (g : List Definition) (text : List ℕ) : Type 0 where
  pub number : ℕ
  pub definition : Definition
  pub type : Datatype
  pub is : slice_get g number ≡ Some definition
  pub stands : Stands (literal type text) definition.content

-- the names that are mentioned, in order and each once
pub record AreMentioned (g : List Definition) (names : List Name) : Type 0 where
  pub sorted : IsStrictlySortedBy name_order names
  pub exact : (n : Name) → Contains names n ↔ Mentions g n

-- the namespaces that are mentioned, each as a name with an empty local part, in order and each once
pub record AreNamespaces (g : List Definition) (names : List Name) : Type 0 where
  pub sorted : IsStrictlySortedBy name_order names
  pub exact : (n : Name) → Contains names n ↔ ((n.local ≡ []) × MentionsNamespace g n.ns)

-- the literals, in order and each once
pub record AreLiterals (g : List Definition) (texts : List (List ℕ)) : Type 0 where
  pub sorted : IsStrictlySortedBy text_order texts
  pub exact : (text : List ℕ) → Contains texts text ↔ HasLiteral g text
