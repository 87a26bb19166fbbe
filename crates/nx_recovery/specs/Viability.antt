-- Recovery always goes on: in each frame some list of events is kept that can become valid.
use Rattle.std.specs.Prelude.{◌≡◌, ℕ, List, [], ◌++◌, Option, Some, IfSome}
use Rattle.std.specs.List.{AllByRecursion}
use Rattle.std.specs.Str.{IsUtf8}
use Rattle.nx_base.specs.Trees as trees
use Rattle.rng_core.specs.Patterns.{Language}
use Rattle.rng_core.specs.Validity.{Viable}
use Rattle.rng_kept.specs.KeptLists.{Kept}
use Rattle.rng_kept.specs.Live.{IsLive}
use Rattle.nx_events.specs.Items.{items_of_text}
use Rattle.nx_events.specs.declared.item.Item.{Item}
use Rattle.nx_recover.specs.Frames.{Frame, document_frame}
use Rattle.nx_recover.specs.declared.levels.Open.{Open}
use Rattle.nx_recover.specs.declared.levels.Open.TheVariants.{In, Begins, Lost}
use Rattle.nx_recovery.specs.Levels.{LevelsBehind}

-- some list that a frame keeps can become valid
pub record IsViableFrame (g : Language) (f : Frame) : Type 0 where
  pub kept : List trees.Event
  pub is_kept : Kept g f.start f.moves kept
  pub viable : Viable g.definitions f.start kept

-- the frame that goes on behind an open element
abbrev pub IsViableOpen : Language → Open Frame → Type 0
IsViableOpen g (In n) = Unit {0}
IsViableOpen g (Begins n around) = IfSome around (IsViableFrame g)
IsViableOpen g (Lost around) = IfSome around (IsViableFrame g)

-- the frame here, and those around
pub record AreViableLevels (g : Language) (here : Option Frame) (os : List (Open Frame)) : Type 0 where
  pub inside : IfSome here (IsViableFrame g)
  pub around : AllByRecursion (IsViableOpen g) os

-- of a live schema, behind each item of a text
abbrev pub FramesStayViable : Type 0
FramesStayViable = (g : Language) → IsLive g → (text : List ℕ) → IsUtf8 text →
    (front rest : List Item) → items_of_text text ≡ front ++ rest →
    (here : Option Frame) (os : List (Open Frame)) → LevelsBehind g (Some (document_frame g)) [] front here os →
    AreViableLevels g here os
