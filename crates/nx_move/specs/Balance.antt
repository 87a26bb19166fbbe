-- Which End closes which Start. Names aren't compared.
use Rattle.std.specs.Prelude.{◌≡◌, ℕ, List, [], ◌∷◌, ◌++◌}
use Rattle.nx_move.specs.declared.tag.Tag.{Tag}
use Rattle.nx_move.specs.declared.tag.TagKind.TheVariants as kinds

-- tags of whole elements, one behind another: each Start among them is closed by an End among them
pub data Balanced : List Tag → Type 0 where
  nothing : Balanced []
  empty : (tag : Tag) (others : List Tag) → tag.kind ≡ kinds.Empty → Balanced others → Balanced (tag ∷ others)
  element : (start end : Tag) (inner others : List Tag) → start.kind ≡ kinds.Start → Balanced inner → end.kind ≡ kinds.End
      → Balanced others → Balanced (start ∷ (inner ++ end ∷ others))

-- the first End that no Start in front of it in this list closes with, ends at the place
pub record ClosedAt (tags : List Tag) (place : ℕ) : Type 0 where
  pub inner : List Tag
  pub end : Tag
  pub others : List Tag
  pub split : tags ≡ inner ++ end ∷ others
  pub between : Balanced inner
  pub kind : end.kind ≡ kinds.End
  pub there : place ≡ end.to

-- the last Start that no End behind it in this list closes, starts at the place
pub record OpenedAt (tags : List Tag) (place : ℕ) : Type 0 where
  pub others : List Tag
  pub start : Tag
  pub inner : List Tag
  pub split : tags ≡ others ++ start ∷ inner
  pub between : Balanced inner
  pub kind : start.kind ≡ kinds.Start
  pub there : place ≡ start.from
