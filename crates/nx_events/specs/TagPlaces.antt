-- What is written at the end of a tag's text, read from left to right: each step gives what is left behind it.
use Rattle.std.specs.Prelude.{◌≡◌, ℕ, ◌+◌, ◌-◌, ◌≤◌, Bool, false, ◌&&◌, ◌||◌, ◌==◌, nat_lt, nat_eq, if◌then◌else◌, List, length, take}
use Rattle.std.specs.Prelude.{drop, slice_index, Option, Some, None, codes}
use Rattle.std.specs.List.{starts_with, prefix_len, position_or_len}
use Rattle.nx_base.specs.Characters.{is_space, is_quote}
use Rattle.nx_events.specs.References.{name_chars_len, name_len}
use Rattle.nx_events.specs.XmlDeclaration.{◌>>=◌, after_some_spaces, after_equals}
use Rattle.nx_events.specs.Prefixes.{IsElementName, IsEndName, IsAttributeName, IsAttributeValue, IsElsewhere}
use Rattle.nx_events.specs.declared.place.PlaceInTag.{PlaceInTag}
use Rattle.nx_events.specs.declared.place.PlaceInTag.TheVariants as places

abbrev pub are_name_chars : List ℕ → Bool
are_name_chars bytes = name_chars_len 0 bytes == length bytes

-- what is left behind a Name
unfoldable pub after_name : List ℕ → Option (List ℕ)
after_name bytes = if name_len bytes == 0 then None else Some (drop (name_len bytes) bytes)

-- how many bytes at the front are neither this quote nor `<` (60)
abbrev pub unquoted_len : ℕ → List ℕ → ℕ
unquoted_len quote bytes = position_or_len (λ b. b == quote || b == 60) bytes

-- what is left behind a value in quotes
unfoldable pub after_quoted : List ℕ → Option (List ℕ)
after_quoted bytes =
    let quote = slice_index bytes 0 in
    let rest = drop 1 bytes in
    let n = unquoted_len quote rest in
    if is_quote quote && (nat_lt n (length rest) && slice_index rest n == quote) then Some (drop (n + 1) rest) else None

-- a quote and a part of a value, and nothing else
unfoldable pub is_open_value : List ℕ → Bool
is_open_value bytes = is_quote (slice_index bytes 0) && unquoted_len (slice_index bytes 0) (drop 1 bytes) == length (drop 1 bytes)

-- what is left behind S+ and an attribute
unfoldable pub after_attribute : List ℕ → Option (List ℕ)
after_attribute bytes = do
  begun ← after_some_spaces bytes
  named ← after_name begun
  valued ← after_equals named
  after_quoted valued

-- this is left behind all such attributes at the front
pub data IsLeft : List ℕ → List ℕ → Type 0 where
  no_more : (bytes left : List ℕ) → after_attribute bytes ≡ None → left ≡ bytes → IsLeft bytes left
  one_more : (bytes left rest : List ℕ) → after_attribute bytes ≡ Some rest → IsLeft rest left → IsLeft bytes left

-- a Name, Eq, a quote and a part of a value, and nothing else
abbrev pub opens_value : Option (List ℕ) → Bool
opens_value None = false
opens_value (Some valued) = is_open_value valued

unfoldable pub begins_value : List ℕ → Bool
begins_value bytes = opens_value (after_name bytes >>= after_equals)

-- the place at the end of an end tag, whose `</` is left out
abbrev pub end_place : List ℕ → PlaceInTag
end_place name = if are_name_chars name then places.EndName else places.Elsewhere

-- the place at the end of a tag whose attributes end behind so many bytes
unfoldable pub attribute_place : List ℕ → ℕ → PlaceInTag
attribute_place bytes at =
    let spaces = prefix_len is_space (drop at bytes) in
    let begun = drop (at + spaces) bytes in
    if spaces == 0 then places.Elsewhere
    else (if are_name_chars begun then places.AttributeName (at + spaces)
    else (if begins_value begun then places.AttributeValue (at + spaces) (name_len begun)
    else places.Elsewhere))

-- the place at the end of a start tag, where this is left behind its attributes
abbrev pub behind_name : List ℕ → List ℕ
behind_name bytes = drop (name_len (drop 1 bytes)) (drop 1 bytes)

unfoldable pub start_place : List ℕ → List ℕ → PlaceInTag
start_place bytes left =
    if are_name_chars (drop 1 bytes) then places.ElementName
    else (if name_len (drop 1 bytes) == 0 then places.Elsewhere
    else attribute_place bytes (length bytes - length left))

-- the place at the end of either
unfoldable pub place_in_tag : List ℕ → List ℕ → PlaceInTag
place_in_tag bytes left =
    if starts_with nat_eq (drop 1 bytes) (codes "/") then end_place (drop 1 (drop 1 bytes)) else start_place bytes left

-- what the place says of the text
abbrev pub IsPlace : List ℕ → PlaceInTag → Type 0
IsPlace bytes places.ElementName = IsElementName bytes
IsPlace bytes places.EndName = IsEndName bytes
IsPlace bytes (places.AttributeName tag) = (tag ≤ length bytes) × IsAttributeName (take tag bytes) bytes
IsPlace bytes (places.AttributeValue tag name) =
    (tag + name ≤ length bytes) × IsAttributeValue (take tag bytes) (take name (drop tag bytes)) bytes
IsPlace bytes places.Elsewhere = IsElsewhere bytes
