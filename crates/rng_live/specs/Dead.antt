-- Patterns and definitions that are dead: they match nothing that can be written.
use Rattle.std.specs.Prelude.{ℕ, List, [], ◌∷◌, IsTrue}
use Rattle.std.specs.Str.{is_utf8}
use Rattle.nx_base.specs.declared.name.Name.{Name}
use Rattle.nx_base.specs.Characters.{is_of_chars}
use Rattle.nx_base.specs.Trees.{Attribute, Children, nil, string, element}
use Rattle.rng_core.specs.Patterns.{Pattern, Definition}
use Rattle.rng_core.specs.Matching.{Matches}

-- each value of these attributes is such a text
pub data ValuesAre (Ok : List ℕ → Type 0) : List Attribute → Type 0 where
  no_values : ValuesAre Ok []
  one_value : {a : Attribute} {more : List Attribute} → Ok a.value → ValuesAre Ok more → ValuesAre Ok (a ∷ more)

-- each string among these children, and in them, is such a text
pub data StringsAre (Ok : List ℕ → Type 0) : Children → Type 0 where
  no_strings : StringsAre Ok nil
  one_string : {text : List ℕ} {rest : Children} → Ok text → StringsAre Ok rest → StringsAre Ok (string text rest)
  one_element : {n : Name} {a : List Attribute} {k rest : Children} → ValuesAre Ok a → StringsAre Ok k → StringsAre Ok rest
      → StringsAre Ok (element n a k rest)

-- a text of characters that XML allows
pub record IsOfChars (text : List ℕ) : Type 0 where
  pub of_chars : IsTrue (is_of_chars text)

-- a text of UTF-8
pub record IsOfUtf8 (text : List ℕ) : Type 0 where
  pub of_utf8 : IsTrue (is_utf8 text)

-- a pattern lives where it matches attributes and children whose strings are such texts
pub record Lives (g : List Definition) (p : Pattern) : Type 0 where
  pub attributes : List Attribute
  pub children : Children
  pub values : ValuesAre IsOfChars attributes
  pub strings_are : StringsAre IsOfChars children
  pub matched : Matches g p attributes children

-- it is dead where it matches none
abbrev pub IsDead : List Definition → Pattern → Type 0
IsDead g p = Lives g p → ⊥
