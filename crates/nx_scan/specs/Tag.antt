-- What may still follow a part of a tag.
use Rattle.std.specs.Prelude.{◌≡◌, ℕ, ◌+◌, ◌-◌, ◌<◌, ◌≤◌, nat_lt, Bool, true, false, not, ◌&&◌, ◌==◌, ◌⊎◌, List, length, slice_index, drop}
use Rattle.nx_base.specs.Characters.{is_quote, is_name_start, is_name_char}
use Rattle.nx_base.specs.Form.{Form, name_char, only, one, seq, alt, many, never, nothing, after, may_end}
use Rattle.nx_base.specs.Tags.{name_form, spaces, quoted_rest, attribute_value, attribute_rest, attribute, tag_rest}
use Rattle.nx_base.specs.Text.{IsPlace}
use Rattle.nx_base.specs.Tokens.{Cut, cut_as, Tags, tags, tag}
use Rattle.nx_scan.specs.declared.tag.TagState.{TagState}
use Rattle.nx_scan.specs.declared.tag.TagState.TheVariants as seen

-- of a start tag or an empty-element tag, by how it closes
abbrev pub in_tag : (Form → Form) → Tags
in_tag left = record { end = never; start = left (one (only 62)); empty = left (seq (one (only 47)) (one (only 62))) }

-- of an end tag
abbrev pub in_end : Form → Tags
in_end left = record { end = left; start = never; empty = never }

-- attributes that follow, and the tag's end, behind a part of an attribute
abbrev pub in_attribute : Form → Form → Form
in_attribute left close = seq (seq left (many attribute)) (seq spaces close)

-- behind an end tag's name
abbrev pub end_rest : Form
end_rest = seq spaces (one (only 62))

unfoldable pub left_of : TagState → Tags
left_of seen.Open = record {
  end = seq (one (only 47)) (seq name_form end_rest);
  start = seq name_form (tag_rest (one (only 62)));
  empty = seq name_form (tag_rest (seq (one (only 47)) (one (only 62))));
}
left_of seen.Name = in_tag (λ close. seq (many (one name_char)) (tag_rest close))
left_of seen.Gap = in_tag (λ close. alt (in_attribute (seq spaces (seq name_form attribute_rest)) close) (seq spaces close))
left_of seen.Attribute = in_tag (in_attribute (seq (many (one name_char)) attribute_rest))
left_of seen.AttributeGap = in_tag (in_attribute attribute_rest)
left_of seen.Equals = in_tag (in_attribute attribute_value)
left_of seen.Double = in_tag (in_attribute (quoted_rest 34))
left_of seen.Single = in_tag (in_attribute (quoted_rest 39))
left_of seen.Value = in_tag tag_rest
left_of seen.Slash = record { end = never; start = never; empty = one (only 62) }
left_of seen.EndOpen = in_end (seq name_form end_rest)
left_of seen.EndName = in_end (seq (many (one name_char)) end_rest)
left_of seen.EndGap = in_end end_rest
left_of seen.Start = record { end = never; start = nothing; empty = never }
left_of seen.Empty = record { end = never; start = never; empty = nothing }
left_of seen.End = in_end nothing
left_of seen.Lost = in_end never

-- what may follow the next character
unfoldable pub left_after : Tags → ℕ → Tags
left_after left c = record { end = after left.end c; start = after left.start c; empty = after left.empty c }

-- no tag is whole
pub record IsPart (left : Tags) : Type 0 where
  pub end : may_end left.end ≡ false
  pub start : may_end left.start ≡ false
  pub empty : may_end left.empty ≡ false

-- the cut of a token that began so many bytes earlier
abbrev pub later : ℕ → Cut → Cut
later k cut = cut_as cut.kind (k + cut.len)

-- what begins at `at` was read up to a place as a part of a tag: which token it is, what is left there says
pub record IsReadTo (text : List ℕ) (at place : ℕ) (read : TagState) : Type 0 where
  pub border : IsPlace text place
  pub behind : at ≤ place
  pub part : IsPart (left_of read)
  pub so_far : tag tags (drop at text) ≡ later (place - at) (tag (left_of read) (drop place text))

-- a character of one byte behind which the same may follow as in front of it
pub record Stays (read : TagState) (byte : ℕ) : Type 0 where
  pub low : byte < 128
  pub same : left_of read ≡ left_after (left_of read) byte

-- a character of one byte of a name, and of a value in such quotes
abbrev pub is_name_byte : ℕ → Bool
is_name_byte byte = nat_lt byte 128 && is_name_char byte

-- a name of such characters from an index on, which `>` closes at another
pub record IsClosedName (bytes : List ℕ) (from close : ℕ) : Type 0 where
  pub some : from < close
  pub within : close < length bytes
  pub low : slice_index bytes from < 128
  pub first : is_name_start (slice_index bytes from) ≡ true
  pub others : (k : ℕ) → k < close - (from + 1) → is_name_byte (slice_index bytes (from + 1 + k)) ≡ true
  pub closed : slice_index bytes close ≡ 62

abbrev pub is_value_byte : ℕ → ℕ → Bool
is_value_byte quote byte = nat_lt byte 128 && (not (byte == quote) && not (byte == 60))

-- an attribute of such characters from an index on, up to another: a name, `=`, and a value in quotes
pub record IsAttribute (bytes : List ℕ) (from to : ℕ) : Type 0 where
  pub equals : ℕ
  pub close : ℕ
  pub quote : ℕ
  pub some : from < equals
  pub low : slice_index bytes from < 128
  pub first : is_name_start (slice_index bytes from) ≡ true
  pub others : (k : ℕ) → k < equals - (from + 1) → is_name_byte (slice_index bytes (from + 1 + k)) ≡ true
  pub equals_there : slice_index bytes equals ≡ 61
  pub opened : slice_index bytes (equals + 1) ≡ quote
  pub quoted : is_quote quote ≡ true
  pub behind : equals + 2 ≤ close
  pub value : (k : ℕ) → k < close - (equals + 2) → is_value_byte quote (slice_index bytes (equals + 2 + k)) ≡ true
  pub within : close < length bytes
  pub closed : slice_index bytes close ≡ quote
  pub ends : to ≡ close + 1

-- characters of one byte from an index on, up to another, behind which this was read: such that leave what was read as it was, or an
-- attribute where one may begin
abbrev pub Passes : TagState → List ℕ → ℕ → ℕ → TagState → Type 0
Passes read bytes from to behind =
    ((behind ≡ read) × ((k : ℕ) → k < to - from → Stays read (slice_index bytes (from + k))))
    ⊎ ((read ≡ seen.Gap) × (behind ≡ seen.Value) × IsAttribute bytes from to)
