-- Levels behind items and others.
use Rattle.std.proofs.Common.{◌≡◌, List, [], ◌∷◌, ◌++◌, Option, Some, None, refl}
use Rattle.rng_core.specs.Patterns.{Language}
use Rattle.nx_events.specs.declared.item.Item.{Item}
use Rattle.nx_events.specs.declared.item.Item.TheVariants as items
use Rattle.nx_recover.specs.Behind.{LevelsBehind, no_item, an_event, a_fault}
use Rattle.nx_recover.specs.Frames.{Frame}
use Rattle.nx_recover.specs.Offers.{inside}
use Rattle.nx_recover.specs.declared.levels.Open.{Open}

pub behind_append : {g : Language} {here middle last : Option Frame} {os between around : List (Open Frame)} {xs ys : List Item} →
    LevelsBehind g here os xs middle between → LevelsBehind g middle between ys last around → LevelsBehind g here os (xs ++ ys) last around
behind_append no_item c = c
behind_append (an_event next behind w a more) c = an_event next behind w a (behind_append more c)
behind_append (a_fault more) c = a_fault (behind_append more c)

pub frame_inside : (here last : Option Frame) (f : Frame) → last ≡ Some f → (here ≡ None → ⊥) → inside here last ≡ Some f
frame_inside None last f e h = absurd (h refl)
frame_inside (Some k) last f e h = e

-- levels behind both are levels behind the first, and behind the others from there on
pub record Between (g : Language) (here : Option Frame) (os : List (Open Frame)) (xs ys : List Item) (last : Option Frame) (around : List (Open Frame)) : Type 0 where
  pub middle : Option Frame
  pub between : List (Open Frame)
  pub before : LevelsBehind g here os xs middle between
  pub behind : LevelsBehind g middle between ys last around

pub behind_split : {g : Language} {here last : Option Frame} {os around : List (Open Frame)} (xs ys : List Item) → LevelsBehind g here os (xs ++ ys) last around → Between g here os xs ys last around
behind_split {here = here} {os = os} [] ys b = record { middle = here; between = os; before = no_item; behind = b }
behind_split (items.Event e s ∷ xs) ys (an_event next behind w a more) =
    let r = behind_split xs ys more in
    record { middle = r.middle; between = r.between; before = an_event next behind w a r.before; behind = r.behind }
behind_split (items.Fault x ∷ xs) ys (a_fault more) =
    let r = behind_split xs ys more in
    record { middle = r.middle; between = r.between; before = a_fault r.before; behind = r.behind }
