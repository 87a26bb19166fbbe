-- How the tags are gone over, once. That this finds what the definitions say is shown in proofs/.
use Rattle.std.specs.Prelude.{◌≡◌, ℕ, zero, suc, ◌+◌, ◌<◌, ◌≤◌, List, [], ◌∷◌, length, Option, Some, None, reverse}
use Rattle.std.specs.List.{cons_option}
use Rattle.std.specs.Option.{option_map, option_map_or}
use Rattle.nx_base.specs.Text.{IsPlace}
use Rattle.nx_base.specs.declared.way.Way.{Way}
use Rattle.nx_base.specs.declared.way.Way.TheVariants as ways
use Rattle.nx_move.specs.declared.behind.Trail.{Trail}
use Rattle.nx_move.specs.declared.tag.Piece.{Piece}
use Rattle.nx_move.specs.declared.tag.Tag.{Tag}
use Rattle.nx_move.specs.declared.tag.TagKind.{TagKind}
use Rattle.nx_move.specs.declared.tag.TagKind.TheVariants as kinds
use Rattle.nx_move.specs.Tags.{tags_from}
use Rattle.nx_move.specs.Ways.{ahead, behind}

-- the piece is the token at a border
pub record IsPiece (text : List ℕ) (at : ℕ) (piece : Piece) : Type 0 where
  pub further : at < piece.to
  pub border : IsPlace text piece.to
  pub tags : tags_from text at ≡ cons_option piece.tag (tags_from text piece.to)
  pub whole : (tag : Tag) → piece.tag ≡ Some tag → (tag.from ≡ at) × (tag.to ≡ piece.to)

-- or none is left
abbrev pub NextPiece : List ℕ → ℕ → Option Piece → Type 0
NextPiece text at None = at ≡ length text
NextPiece text at (Some piece) = IsPiece text at piece

-- the first tag of a text from a border on
pub record IsNext (text : List ℕ) (from : ℕ) (tag : Tag) : Type 0 where
  pub tags : tags_from text from ≡ tag ∷ tags_from text tag.to
  pub starts : from ≤ tag.from
  pub further : tag.from < tag.to
  pub border : IsPlace text tag.to

-- or none
abbrev pub NextTag : List ℕ → ℕ → Option Tag → Type 0
NextTag text from None = tags_from text from ≡ []
NextTag text from (Some tag) = IsNext text from tag

-- the depth behind a tag; none where it closes what is around
abbrev pub depth_behind : TagKind → ℕ → Option ℕ
depth_behind kinds.Start depth = Some (depth + 1)
depth_behind kinds.Empty depth = Some depth
depth_behind kinds.End zero = None
depth_behind kinds.End (suc depth) = Some depth

-- the tag that closes what is around, so many elements farther out
abbrev pub closing : ℕ → List Tag → Option Tag
closing depth [] = None
closing depth (tag ∷ tags) = option_map_or (λ deeper. closing deeper tags) (depth_behind tag.kind depth) (Some tag)

abbrev pub out_of : List Tag → Option ℕ
out_of tags = option_map (λ tag. tag.to) (closing 0 tags)

abbrev pub over_tag : TagKind → ℕ → List Tag → Option ℕ
over_tag kinds.Start to tags = out_of tags
over_tag kinds.Empty to tags = Some to
over_tag kinds.End to tags = None

abbrev pub over : List Tag → Option ℕ
over [] = None
over (tag ∷ tags) = over_tag tag.kind tag.to tags

abbrev pub into_tag : TagKind → ℕ → Option ℕ → Option ℕ
into_tag kinds.Start to farther = Some to
into_tag kinds.Empty to farther = farther
into_tag kinds.End to farther = None

abbrev pub into : List Tag → Option ℕ
into [] = None
into (tag ∷ tags) = into_tag tag.kind tag.to (into tags)

-- what the tags behind leave: the places of the Starts that are open, the innermost first, and where backward leads
pub record Left : Type 0 where
  pub starts : List ℕ
  pub last : Option ℕ

abbrev pub first_of : List ℕ → Option ℕ
first_of [] = None
first_of (place ∷ places) = Some place

abbrev pub others_of : List ℕ → List ℕ
others_of [] = []
others_of (place ∷ places) = places

abbrev pub left_by : TagKind → ℕ → List ℕ → Left
left_by kinds.Start from starts = record { starts = from ∷ starts; last = None }
left_by kinds.Empty from starts = record { starts = starts; last = Some from }
left_by kinds.End from starts = record { starts = others_of starts; last = first_of starts }

abbrev pub left_of : Left → List Tag → Left
left_of left [] = left
left_of left (tag ∷ tags) = left_of (left_by tag.kind tag.from left.starts) tags

abbrev pub nothing_left : Left
nothing_left = record { starts = []; last = None }

-- a trail keeps the innermost last
abbrev pub trail_left : Trail → Left
trail_left trail = record { starts = reverse trail.starts.items; last = trail.last }

abbrev pub place_of : Way → List Tag → ℕ → Option ℕ
place_of ways.Forward tags at = over (ahead at tags)
place_of ways.Backward tags at = (left_of nothing_left (behind at tags)).last
place_of ways.Up tags at = out_of (ahead at tags)
place_of ways.BackUp tags at = first_of (left_of nothing_left (behind at tags)).starts
place_of ways.Down tags at = into (ahead at tags)
