-- The borders of the grapheme clusters of a text, the whole of which decides where they lie.
use Rattle.std.specs.Prelude.{◌≡◌, ◌⊎◌, ◌↔◌, ◌<◌, ℕ, true, List, length, map}
use Rattle.std.specs.List.{Contains}
use Rattle.std.specs.Str.{IsUtf8}
use Rattle.unicode_segmentation.specs.Grapheme.{graphemes, is_grapheme_break}
use Rattle.unicode_segmentation.specs.Segments.{breaks_at, with_offsets}
use Rattle.nx_base.specs.Text.{IsPlace}

-- a place at which the rules for extended clusters break the text
pub record IsBorder (text : List ℕ) (at : ℕ) : Type 0 where
  pub place : IsPlace text at
  pub breaks : breaks_at (is_grapheme_break true) text at ≡ true

-- the nearest border behind the offset
pub record IsNextBorder (text : List ℕ) (at next : ℕ) : Type 0 where
  pub greater : at < next
  pub border : IsBorder text next
  pub nearest : (other : ℕ) → at < other → other < next → ¬ IsBorder text other

-- the nearest border in front of the offset
pub record IsPreviousBorder (text : List ℕ) (at previous : ℕ) : Type 0 where
  pub smaller : previous < at
  pub border : IsBorder text previous
  pub nearest : (other : ℕ) → previous < other → other < at → ¬ IsBorder text other

-- the offsets at which the clusters of the text begin
abbrev pub cluster_starts : List ℕ → List ℕ
cluster_starts text = map (λ cluster. cluster.0) (with_offsets 0 (graphemes true text))

-- the borders are where clusters begin, and the end of the text
abbrev pub BordersAreOfClusters : Type 0
BordersAreOfClusters = (text : List ℕ) (at : ℕ) → IsUtf8 text →
    (IsBorder text at ↔ (Contains (cluster_starts text) at ⊎ (at ≡ length text)))
