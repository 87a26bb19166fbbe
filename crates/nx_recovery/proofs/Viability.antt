-- What stands goes on, so that each frame keeps a list that is viable.
use Rattle.std.proofs.Common.{ℕ, List, [], ◌++◌, Option, Some, None, subst}
use Rattle.std.specs.Prelude.{IfSome}
use Rattle.std.specs.List.{AllByRecursion}
use Rattle.nx_base.specs.declared.name.Name.{Name}
use Rattle.nx_events.specs.Texts.{ItemsAreText}
use Rattle.nx_events.specs.declared.item.Item.{Item}
use Rattle.rng_core.specs.Patterns.{Language}
use Rattle.rng_kept.specs.Live.{AreLive}
use Rattle.rng_kept.specs.Residuals.{Residual}
use Rattle.rng_kept.specs.Standing.{first_residual}
use Rattle.rng_residual.proofs.Standing.{standing_goes_on}
use Rattle.nx_recover.specs.Frames.{Frame}
use Rattle.nx_recover.specs.declared.levels.Open.{Open}
use Rattle.nx_recovery.specs.Viability.{IsViableFrame, IsViableOpen, AreViableLevels, FramesStayViable}
use Rattle.nx_recovery.proofs.Tags.{InTags, text_in_tags}
use Rattle.nx_recovery.specs.Levels.{LevelsBehind, no_item, an_event, a_fault, tag_after, StandsHere, lost_here, frame_here, StandsOpen, stands_in, stands_begins, stands_lost, StandAround, none_around, one_around}
use Rattle.nx_recovery.proofs.Standing.{document_stands}
use Rattle.nx_recovery.proofs.Following.{LevelsStand, follow}
use Rattle.nx_recovery.proofs.Along.{text_items}

module _ (g : Language) (live : AreLive g.definitions) where
  viable_here : {tag : Option (List Name)} {depth : ℕ} {here : Option Frame} {x : Option Residual} → StandsHere g tag depth here x → IfSome here (IsViableFrame g)
  viable_here lost_here = tt
  viable_here (frame_here {f = f} {x = x} s) =
      let w = standing_goes_on g f.start f.moves x live s.stands in
      record { kept = w.is_rest_of.kept; is_kept = w.is_rest_of.is_kept; viable = record { rest = w.rest; is_rest = w.is_rest_of.is_rest } }

  viable_open : {depth : ℕ} {o : Open Frame} {x : Open Residual} → StandsOpen g depth o x → IsViableOpen g o
  viable_open stands_in = tt
  viable_open (stands_begins s) = viable_here s
  viable_open (stands_lost s) = viable_here s

  viable_around : {os : List (Open Frame)} {xs : List (Open Residual)} → StandAround g os xs → AllByRecursion (IsViableOpen g) os
  viable_around none_around = tt
  viable_around (one_around s t) = (viable_open s, viable_around t)

  viable_levels : {tag : Option (List Name)} {here : Option Frame} {os : List (Open Frame)} → LevelsStand g tag here os → AreViableLevels g here os
  viable_levels l = record { inside = viable_here l.stands; around = viable_around l.around }

  viable_behind : {here last : Option Frame} {os around : List (Open Frame)} {front : List Item} (tag : Option (List Name)) (rest : List Item) →
      LevelsBehind g here os front last around → InTags tag (front ++ rest) → ItemsAreText (front ++ rest) → LevelsStand g tag here os → AreViableLevels g last around
  viable_behind tag rest no_item i t l = viable_levels l
  viable_behind tag rest (an_event {e = e} next behind w after more) i t l =
      viable_behind (tag_after tag e) rest more i.1 t.1 (follow g live tag e i.0 t.0 l after)
  viable_behind tag rest (a_fault more) i t l = viable_behind tag rest more i t.1 l

pub frames_stay_viable : FramesStayViable
frames_stay_viable g live text utf8 front rest e here os behind =
    viable_behind g live.definitions None rest behind
    (subst (λ (all : List Item). InTags None all) e (text_in_tags text))
    (subst (λ (all : List Item). ItemsAreText all) e (text_items text utf8))
    (record { form = record { here = Some (first_residual g.start); elements = [] }; stands = document_stands live.start; around = none_around })
