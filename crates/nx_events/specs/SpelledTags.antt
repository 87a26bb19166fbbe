-- Tokens that are tags are spelled by the grammar (XML 1.0, 3.1 [40] to [44]), so that what is read in them is what it says.
use Rattle.std.specs.Prelude.{◌≡◌, ℕ, ◌+◌, false, ◌==◌, List, ◌++◌, length, codes}
use Rattle.std.specs.List.{AllByRecursion}
use Rattle.std.specs.Str.{IsUtf8, chars}
use Rattle.nx_base.specs.Form.{Spells}
use Rattle.nx_base.specs.Tags.{name_form}
use Rattle.nx_base.specs.Tokens.{IsOfKind}
use Rattle.nx_base.specs.declared.token.Token.{Token}
use Rattle.nx_base.specs.declared.token.TokenKind.{TokenKind}
use Rattle.nx_base.specs.declared.token.TokenKind.TheVariants as kinds
use Rattle.nx_events.specs.Tags.{start_name, end_name, tag_attributes}
use Rattle.nx_events.specs.Spelling.{Written, AreSpaces, IsTag, spelled_tag, read_all}

-- a Name (2.3 [5])
pub record IsName (name : List ℕ) : Type 0 where
  pub utf8 : IsUtf8 name
  pub spelled : Spells name_form (chars name)

-- no `<` (60) stands in a value (2.3 [10])
abbrev pub HasNoLess : Written → Type 0
HasNoLess it = AllByRecursion (λ (b : ℕ). (b == 60) ≡ false) it.value

-- `<`, a Name, attributes, S*, and the mark that closes the tag; that Name and those attributes are what is read
pub record IsSpelledTag (mark bytes : List ℕ) : Type 0 where
  pub name : List ℕ
  pub attributes : List Written
  pub space : List ℕ
  pub is_name : IsName name
  pub are_names : AllByRecursion (λ (it : Written). IsName it.name) attributes
  pub are_values : AllByRecursion HasNoLess attributes
  pub are_spaces : AreSpaces space
  pub is_tag : IsTag name attributes (space ++ mark)
  pub spelled : bytes ≡ spelled_tag name attributes (space ++ mark)
  pub name_read : start_name bytes ≡ name
  pub attributes_read : (at : ℕ) → tag_attributes at bytes ≡ read_all (at + 1 + length name) attributes

-- `</`, a Name, S*, `>`; that Name is what is read
pub record IsSpelledEnd (bytes : List ℕ) : Type 0 where
  pub name : List ℕ
  pub space : List ℕ
  pub is_name : IsName name
  pub are_spaces : AreSpaces space
  pub spelled : bytes ≡ codes "</" ++ (name ++ (space ++ codes ">"))
  pub name_read : end_name bytes ≡ name

-- the bytes of a tag of this kind are spelled
abbrev pub IsSpelled : TokenKind → List ℕ → Type 0
IsSpelled kinds.Start bytes = IsSpelledTag (codes ">") bytes
IsSpelled kinds.Empty bytes = IsSpelledTag (codes "/>") bytes
IsSpelled kinds.End bytes = IsSpelledEnd bytes
IsSpelled _ bytes = Unit {0}

abbrev pub TagsAreSpelled : Type 0
TagsAreSpelled = (token : Token) → IsUtf8 token.bytes → IsOfKind token → IsSpelled token.kind token.bytes
