-- Rests of a residual: events that begin as it is asked, and that it takes.
use Rattle.std.specs.Prelude.{◌≡◌, ◌<◌, List, [], ◌∷◌, length}
use Rattle.nx_base.specs.Trees.{Event, Enter, Att, Chars, Leave, AreWritable}
use Rattle.nx_base.specs.declared.name.Name.{Name}
use Rattle.rng_core.specs.Patterns.{Definition}
use Rattle.rng_cost.specs.Costs.{IsLarge}
use Rattle.rng_kept.specs.Events.{IsAmong, IsDistinct}
use Rattle.rng_kept.specs.Lively.{Lively}
use Rattle.rng_kept.specs.Residuals.{Residual, Takes}
use Rattle.rng_fill.specs.Moves.{events_of}
use Rattle.rng_names.specs.Left.{UseNames}
use Rattle.rng_rests.specs.declared.first.First.{First}
use Rattle.rng_rests.specs.declared.first.First.TheVariants as first
use Rattle.rng_rests.specs.declared.rest.Rest.{Rest}
use Rattle.rng_rests.specs.declared.rest.Rest.TheVariants.{Found, TooMany, Nothing}

-- events begin with this one
abbrev pub Begins : First → List Event → Type 0
Begins (first.Enter n) (Enter m ∷ s) = n ≡ m
Begins (first.Att n) (Att m v ∷ s) = n ≡ m
Begins first.Leave (Leave ∷ s) = Unit {0}
Begins _ _ = ⊥

-- no string is empty, and none follows another one
abbrev pub AreApart : List Event → Type 0
AreApart [] = Unit {0}
AreApart (Chars t ∷ Chars u ∷ s) = ⊥
AreApart (Chars t ∷ s) = (0 < length t) × AreApart s
AreApart (e ∷ s) = AreApart s

-- events that begin so, can be written, and are taken; they repeat no attribute of the tag in front of them, which has these
pub record IsRestBy (g : List Definition) (l : List Name) (x : Residual) (first : First) (s : List Event) : Type 0 where
  pub begins : Begins first s
  pub takes : Takes g x s
  pub writable : AreWritable s
  pub apart : AreApart s
  pub distinct : IsDistinct l s

-- some events that begin so can be written and are taken, and repeat no such attribute
pub record HasRest (g : List Definition) (l : List Name) (x : Residual) (first : First) : Type 0 where
  pub events : List Event
  pub begins : Begins first events
  pub takes : Takes g x events
  pub writable : AreWritable events
  pub distinct : IsDistinct l events

-- such events are told only of definitions that aren't large
pub record IsSmallRest (g : List Definition) (l : List Name) (x : Residual) (first : First) (s : List Event) : Type 0 where
  pub rest : IsRestBy g l x first s
  pub small : IsLarge g → ⊥

-- what is answered for rests of what is left behind a tag, so far of these attributes, or elsewhere, of none
abbrev pub RestOf : List Definition → List Name → Residual → First → Rest → Type 0
RestOf g l x first (Found moves) = IsSmallRest g l x first (events_of moves)
RestOf g l x first TooMany = HasRest g l x first × IsLarge g
RestOf g l x first Nothing = HasRest g l x first → ⊥

-- an attribute is none of those that the tag has
abbrev pub IsNewFirst : List Name → First → Type 0
IsNewFirst l (first.Att n) = IsAmong n l → ⊥
IsNewFirst l _ = Unit {0}

-- what is so of a residual that stands for moves, where the open tag has these attributes, and of a first event that may come there
pub record CanBegin (g : List Definition) (l : List Name) (x : Residual) (first : First) : Type 0 where
  pub lively : Lively g l x
  pub used : UseNames l x
  pub new : IsNewFirst l first

-- some attributes are those that the tag has
abbrev pub CanBeginSomehow : List Definition → Residual → First → Type 0
CanBeginSomehow g x first = ∥ ((l : List Name) × CanBegin g l x first) ∥₁
