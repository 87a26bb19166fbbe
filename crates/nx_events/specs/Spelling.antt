-- How a tag is spelled (XML 1.0, 3.1 [40], [41] and [44]), apart from how it is read.
use Rattle.std.specs.Prelude.{◌≡◌, ℕ, ◌+◌, ◌<◌, true, false, ◌==◌, List, [], ◌∷◌, ◌++◌, length}
use Rattle.std.specs.List.{AllByRecursion}
use Rattle.std.specs.Str.{byte}
use Rattle.nx_base.specs.Characters.{is_space, is_quote}
use Rattle.nx_events.specs.Strings.{string_of}
use Rattle.nx_events.specs.Tags.{is_between, ends_name, tag_attributes, start_name}
use Rattle.nx_events.specs.declared.reading.Reading.TheVariants.{Value}
use Rattle.nx_events.specs.declared.tag.Attribute.{Attribute}

-- S+, the name, S*, `=`, S*, and the value in quotes of one kind
pub record Written : Type 0 where
  pub space : List ℕ
  pub name : List ℕ
  pub before : List ℕ
  pub behind : List ℕ
  pub quote : ℕ
  pub value : List ℕ

abbrev pub AreSpaces : List ℕ → Type 0
AreSpaces bytes = AllByRecursion (λ (b : ℕ). is_space b ≡ true) bytes

-- no byte of a name ends it, and none is a quote
pub record IsNameByte (b : ℕ) : Type 0 where
  pub goes_on : ends_name b ≡ false
  pub no_quote : is_quote b ≡ false

pub record IsWritten (it : Written) : Type 0 where
  pub space : AreSpaces it.space
  pub some_name : 0 < length it.name
  pub name : AllByRecursion IsNameByte it.name
  pub before : AreSpaces it.before
  pub behind : AreSpaces it.behind
  pub quote : is_quote it.quote ≡ true
  pub value : AllByRecursion (λ (b : ℕ). (b == it.quote) ≡ false) it.value

-- what stands between the name and the opening quote
abbrev pub middle : Written → List ℕ
middle it = it.before ++ byte "=" ∷ it.behind

-- the attribute without the white space before it, and what follows it
abbrev pub spelled_before : Written → List ℕ → List ℕ
spelled_before it rest = (it.name ++ middle it) ++ it.quote ∷ (it.value ++ it.quote ∷ rest)

-- attributes, and what follows them
abbrev pub spelled_all : List Written → List ℕ → List ℕ
spelled_all [] rest = rest
spelled_all (it ∷ others) rest = it.space ++ spelled_before it (spelled_all others rest)

-- where the value of an attribute whose name begins at a place begins, and where the attribute ends
abbrev pub value_from : ℕ → Written → ℕ
value_from at it = at + length (it.name ++ middle it) + 1

abbrev pub end_from : ℕ → Written → ℕ
end_from at it = value_from at it + length it.value + 1

-- what is read of it, and of all that follow a place
abbrev pub read_from : ℕ → Written → Attribute
read_from at it = record {
  name = it.name;
  string = string_of Value it.value;
  span = record { from = at; to = end_from at it };
  value = record { from = value_from at it; to = value_from at it + length it.value };
}

abbrev pub read_all : ℕ → List Written → List Attribute
read_all at [] = []
read_all at (it ∷ others) = read_from (at + length it.space) it ∷ read_all (end_from (at + length it.space) it) others

-- a tag: `<`, its name, its attributes, and white space, `/` and `>`
abbrev pub spelled_tag : List ℕ → List Written → List ℕ → List ℕ
spelled_tag name attributes closing = byte "<" ∷ (name ++ spelled_all attributes closing)

-- what may close it
abbrev pub AreBetween : List ℕ → Type 0
AreBetween bytes = AllByRecursion (λ (b : ℕ). is_between b ≡ true) bytes

-- the name ends where the attributes, or the closing, begin
pub record IsTag (name : List ℕ) (attributes : List Written) (closing : List ℕ) : Type 0 where
  pub named : AllByRecursion IsNameByte name
  pub written : AllByRecursion IsWritten attributes
  pub apart : AllByRecursion (λ (it : Written). 0 < length it.space) attributes
  pub closes : AreBetween closing
  pub closed : 0 < length closing

-- what a tag spells is read
abbrev pub TagsAreRead : Type 0
TagsAreRead = (at : ℕ) (name : List ℕ) (attributes : List Written) (closing : List ℕ) → IsTag name attributes closing →
    (start_name (spelled_tag name attributes closing) ≡ name)
    × (tag_attributes at (spelled_tag name attributes closing) ≡ read_all (at + 1 + length name) attributes)
