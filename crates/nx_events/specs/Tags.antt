-- What is written in a tag (XML 1.0, 3.1 [40] to [44]).
use Rattle.std.specs.Prelude.{ℕ, zero, suc, ◌+◌, ◌-◌, Bool, not, ◌&&◌, ◌||◌, ◌==◌, nat_le, if◌then◌else◌, List, [], ◌∷◌, ◌++◌, length}
use Rattle.std.specs.Prelude.{take, drop, slice_index}
use Rattle.std.specs.List.{position_or_len, before_first}
use Rattle.std.specs.Str.{byte}
use Rattle.nx_events.specs.declared.reading.Reading.TheVariants.{Value}
use Rattle.nx_base.specs.Characters.{is_space, is_quote}
use Rattle.nx_events.specs.Strings.{string_of}
use Rattle.nx_events.specs.declared.tag.Attribute.{Attribute}

-- what may stand behind an attribute, and behind a name
abbrev pub is_between : ℕ → Bool
is_between b = is_space b || b == byte "/" || b == byte ">"

abbrev pub ends_name : ℕ → Bool
ends_name b = is_between b || b == byte "="

-- the name that the bytes begin with
unfoldable pub written_name : List ℕ → List ℕ
written_name bytes = before_first ends_name bytes

-- of bytes that begin with an attribute: where its value's opening quote stands, how long the value is, the value, and how long
-- the attribute is ([41])
abbrev pub quote_place : List ℕ → ℕ
quote_place bytes = position_or_len is_quote bytes

unfoldable pub value_len : List ℕ → ℕ
value_len bytes = position_or_len (λ b. b == slice_index bytes (quote_place bytes)) (drop (quote_place bytes + 1) bytes)

unfoldable pub written_value : List ℕ → List ℕ
written_value bytes = take (value_len bytes) (drop (quote_place bytes + 1) bytes)

unfoldable pub attribute_len : List ℕ → ℕ
attribute_len bytes = quote_place bytes + value_len bytes + 2

-- the bytes begin with an attribute
unfoldable pub begins_attribute : List ℕ → Bool
begins_attribute bytes = not (is_between (slice_index bytes 0)) && nat_le (attribute_len bytes) (length bytes)

-- that attribute, at the place `at`: its span is from its name through its closing quote, and the value's between the quotes
unfoldable pub attribute_at : ℕ → List ℕ → Attribute
attribute_at at bytes = record {
  name = written_name bytes;
  string = string_of Value (written_value bytes);
  span = record { from = at; to = at + attribute_len bytes };
  value = record { from = at + quote_place bytes + 1; to = at + quote_place bytes + 1 + value_len bytes };
}

-- the attribute that the bytes begin with, if there is one, and how many bytes that takes; what stands between is passed by the byte
unfoldable pub front_attribute : ℕ → List ℕ → List Attribute
front_attribute at bytes = if begins_attribute bytes then attribute_at at bytes ∷ [] else []

unfoldable pub front_len : List ℕ → ℕ
front_len bytes = if begins_attribute bytes then attribute_len bytes else 1

-- the attributes in bytes that begin at the place `at`; the first n bytes belong to an attribute before them
unfoldable pub attributes_from : ℕ → ℕ → List ℕ → List Attribute
attributes_from n at [] = []
attributes_from (suc n) at (b ∷ bytes) = attributes_from n (at + 1) bytes
attributes_from zero at (b ∷ bytes) =
    front_attribute at (b ∷ bytes) ++ attributes_from (front_len (b ∷ bytes) - 1) (at + 1) bytes

-- the name of a start tag or an empty-element tag, and of an end tag
abbrev pub start_name : List ℕ → List ℕ
start_name bytes = written_name (drop 1 bytes)

abbrev pub end_name : List ℕ → List ℕ
end_name bytes = written_name (drop 2 bytes)

-- the attributes of a tag at the place `at`
unfoldable pub tag_attributes : ℕ → List ℕ → List Attribute
tag_attributes at bytes =
    let n = 1 + length (start_name bytes) in attributes_from 0 (at + n) (drop n bytes)
