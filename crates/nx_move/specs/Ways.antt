-- Where each way from a place leads: one definition for each.
use Rattle.std.specs.Prelude.{◌≡◌, ◌⊎◌, ℕ, nat_le, List, [], ◌∷◌, ◌++◌, Option, Some, None}
use Rattle.std.specs.List.{filter, AllByRecursion}
use Rattle.nx_base.specs.declared.way.Way.{Way}
use Rattle.nx_base.specs.declared.way.Way.TheVariants as ways
use Rattle.nx_move.specs.declared.tag.Tag.{Tag}
use Rattle.nx_move.specs.declared.tag.TagKind.TheVariants as kinds
use Rattle.nx_move.specs.Balance.{ClosedAt, OpenedAt}

-- the tags that start at a place or later
abbrev pub ahead : ℕ → List Tag → List Tag
ahead at tags = filter (λ tag. nat_le at tag.from) tags

-- the tags that end at a place or before
abbrev pub behind : ℕ → List Tag → List Tag
behind at tags = filter (λ tag. nat_le tag.to at) tags

-- over the first of these tags: an Empty, or a Start with all up to the End that closes it
pub record OverFirst (tags : List Tag) (place : ℕ) : Type 0 where
  pub first : Tag
  pub others : List Tag
  pub split : tags ≡ first ∷ others
  pub over : ((first.kind ≡ kinds.Empty) × (place ≡ first.to)) ⊎ ((first.kind ≡ kinds.Start) × ClosedAt others place)

-- back over the last of these tags: an Empty, or an End with all down to the Start that it closes
pub record OverLast (tags : List Tag) (place : ℕ) : Type 0 where
  pub others : List Tag
  pub last : Tag
  pub split : tags ≡ others ++ last ∷ []
  pub over : ((last.kind ≡ kinds.Empty) × (place ≡ last.from)) ⊎ ((last.kind ≡ kinds.End) × OpenedAt others place)

-- behind the first of these tags that isn't Empty, which is a Start
pub record InFirst (tags : List Tag) (place : ℕ) : Type 0 where
  pub empties : List Tag
  pub first : Tag
  pub others : List Tag
  pub split : tags ≡ empties ++ first ∷ others
  pub passed : AllByRecursion (λ tag. tag.kind ≡ kinds.Empty) empties
  pub kind : first.kind ≡ kinds.Start
  pub there : place ≡ first.to

-- where a way leads
abbrev pub LeadsTo : Way → List Tag → ℕ → ℕ → Type 0
LeadsTo ways.Forward tags at = OverFirst (ahead at tags)
LeadsTo ways.Backward tags at = OverLast (behind at tags)
LeadsTo ways.Up tags at = ClosedAt (ahead at tags)
LeadsTo ways.BackUp tags at = OpenedAt (behind at tags)
LeadsTo ways.Down tags at = InFirst (ahead at tags)

-- the place where a way leads, and none exactly where it leads nowhere
abbrev pub IsReached : Way → List Tag → ℕ → Option ℕ → Type 0
IsReached way tags at None = (place : ℕ) → ¬ LeadsTo way tags at place
IsReached way tags at (Some place) = LeadsTo way tags at place

-- a way leads to one place at most
abbrev pub LeadsToOnePlace : Type 0
LeadsToOnePlace = (way : Way) (tags : List Tag) (at here there : ℕ) → LeadsTo way tags at here → LeadsTo way tags at there → here ≡ there
