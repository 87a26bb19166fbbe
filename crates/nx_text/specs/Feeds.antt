-- The line feeds of a text, by their places and by how far they are from its end, and a text as it is kept: its bytes
-- with a gap at one of its places, and its line feeds with a gap of their own at the same place.
use Rattle.std.specs.Prelude.{◌≡◌, ◌↔◌, ℕ, ◌+◌, ◌-◌, ◌<◌, List, [], ◌∷◌, ◌++◌, length, map, take, drop, cond, slice_index}
use Rattle.std.specs.List.{Contains}
use Rattle.std.specs.List.Sorted.{IsStrictlyIncreasing}
use Rattle.std.specs.Str.{IsUtf8}
use Rattle.nx_text.specs.Gap.{Parted}
use Rattle.nx_text.specs.Places.{is_line_feed}

-- the offsets at which line feeds stand, in order, where the text begins at an offset
abbrev pub feeds_from : ℕ → List ℕ → List ℕ
feeds_from at [] = []
feeds_from at (byte ∷ rest) = cond (is_line_feed byte) (at ∷ feeds_from (at + 1) rest) (feeds_from (at + 1) rest)

-- counted from the text's start
abbrev pub feeds_of : List ℕ → List ℕ
feeds_of text = feeds_from 0 text

-- counted from its end: how many bytes stand from each line feed on
abbrev pub feeds_to_end : List ℕ → List ℕ
feeds_to_end [] = []
feeds_to_end (byte ∷ rest) = cond (is_line_feed byte) ((length rest + 1) ∷ feeds_to_end rest) (feeds_to_end rest)

-- the bytes of both parts
abbrev pub joined : Parted ℕ → List ℕ
joined bytes = bytes.front ++ bytes.back

-- a text as it is kept
pub record IsKept (bytes feeds : Parted ℕ) : Type 0 where
  pub front_utf8 : IsUtf8 bytes.front
  pub back_utf8 : IsUtf8 bytes.back
  pub front_feeds : feeds.front ≡ feeds_of bytes.front
  pub back_feeds : feeds.back ≡ feeds_to_end bytes.back

-- line feeds of a text with their gap at any of them
pub record IsIndex (text : List ℕ) (feeds : Parted ℕ) : Type 0 where
  pub front : feeds.front ≡ take (length feeds.front) (feeds_of text)
  pub back : feeds.back ≡ drop (length feeds.front) (feeds_to_end text)

-- a text's line feeds are listed each once, in order, and nothing else is
abbrev pub FeedsAreListed : Type 0
FeedsAreListed = (text : List ℕ) → IsStrictlyIncreasing (feeds_of text)
    × ((at : ℕ) → (Contains (feeds_of text) at ↔ ((at < length text) × (slice_index text at ≡ 10))))

-- so are those of a text that is kept: in front of the gap by their offsets, behind it by how far they are from the end
abbrev pub KeptFeedsAreOfText : Type 0
KeptFeedsAreOfText = (bytes feeds : Parted ℕ) → IsKept bytes feeds →
    feeds_of (joined bytes) ≡ feeds.front ++ map (λ left. length (joined bytes) - left) feeds.back
