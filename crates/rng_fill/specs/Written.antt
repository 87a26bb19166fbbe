-- Elements that a definition allows, as a text can write them.
use Rattle.std.specs.Prelude.{◌≡◌, ℕ, List, [], ◌∷◌, Some, slice_get, IsTrue}
use Rattle.nx_base.specs.declared.name.Name.{Name}
use Rattle.nx_base.specs.Characters.{is_of_chars}
use Rattle.nx_base.specs.Names.{is_xml_name}
use Rattle.nx_base.specs.Trees.{Attribute, AreAttributes, Children, nil, string, element, Event, TagEnd, Leave, attributes_flat, children_flat}
use Rattle.rng_core.specs.Patterns.{Definition, ref}
use Rattle.rng_core.specs.Matching.{Matches, Weakly}

-- values of characters that XML allows
pub data AreOfChars : List Attribute → Type 0 where
  no_value : AreOfChars []
  one_value : {x : Attribute} {a : List Attribute} → IsTrue (is_of_chars x.value) → AreOfChars a → AreOfChars (x ∷ a)

-- children with strings and values of such characters, names that a document can have, no attribute twice, no string empty, and no two
-- strings side by side
pub data IsWritten : Children → Type 0 where
  written_nil : IsWritten nil
  written_string : {t : List ℕ} → IsTrue (is_of_chars t) → (t ≡ [] → ⊥) → IsWritten (string t nil)
  written_before : {t : List ℕ} {n : Name} {a : List Attribute} {k rest : Children} → IsTrue (is_of_chars t) → (t ≡ [] → ⊥)
      → IsWritten (element n a k rest) → IsWritten (string t (element n a k rest))
  written_element : {n : Name} {a : List Attribute} {k rest : Children} → IsTrue (is_xml_name n) → AreAttributes a → AreOfChars a
      → IsWritten k → IsWritten rest → IsWritten (element n a k rest)

-- an element of the definition of a number
pub record IsElement (g : List Definition) (i : ℕ) (n : Name) (a : List Attribute) (k : Children) : Type 0 where
  pub matched : Matches g (ref i) [] (element n a k nil)
  pub written : IsWritten (element n a k nil)

-- what is in an element of a definition, from its attributes to its end, and what stands behind it
pub record IsInside (g : List Definition) (i : ℕ) (events after : List Event) : Type 0 where
  pub definition : Definition
  pub is : slice_get g i ≡ Some definition
  pub attributes : List Attribute
  -- as the text has them, and as the content sees them
  pub children : Children
  pub seen : Children
  pub weakly : Weakly children seen
  pub matched : Matches g definition.content attributes seen
  pub distinct : AreAttributes attributes
  pub values : AreOfChars attributes
  pub written : IsWritten children
  pub flat : events ≡ attributes_flat attributes (TagEnd ∷ children_flat children (Leave ∷ after))
