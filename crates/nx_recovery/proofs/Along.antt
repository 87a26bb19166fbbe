-- Recovery over residuals is recovery over kept lists: all items of a text.
use Rattle.std.proofs.Common.{ℕ, List, [], ◌∷◌, ◌++◌, Option, Some, None, sym, subst}
use Rattle.std.specs.Str.{IsUtf8}
use Rattle.nx_base.specs.Running.{machine_faults}
use Rattle.nx_base.specs.Tokens.{tokens_of}
use Rattle.nx_base.specs.declared.fault.Fault.{Fault}
use Rattle.nx_base.specs.declared.name.Name.{Name}
use Rattle.nx_document.proofs.Borders.{tokens_are_text}
use Rattle.nx_events.specs.Items.{items_of_text}
use Rattle.nx_events.specs.Texts.{ItemsAreText}
use Rattle.nx_events.specs.declared.item.Item.{Item}
use Rattle.nx_events.specs.declared.item.Item.TheVariants as items
use Rattle.nx_events.proofs.TextItems.{all_text}
use Rattle.rng_core.specs.Patterns.{Language}
use Rattle.rng_kept.specs.Live.{AreLive}
use Rattle.nx_recover.specs.Frames.{Frame}
use Rattle.nx_recover.specs.Faults.{Along, at_end, by_event, by_fault, AreFaultsOf}
use Rattle.nx_recover.specs.Items.{found_along}
use Rattle.nx_recover.specs.RecoverRules.{recover_rules, first_levels}
use Rattle.nx_recover.specs.Table.{Form, done_by}
use Rattle.nx_recover.specs.declared.levels.Open.{Open}
use Rattle.nx_recovery.specs.Existence.{RecoverGivesFaults, EveryTextHasFaults}
use Rattle.nx_recovery.proofs.Tags.{InTags, text_in_tags}
use Rattle.nx_recovery.specs.Levels.{tag_after, own_elements, StandsHere, StandAround, none_around}
use Rattle.nx_recovery.proofs.Standing.{document_stands}
use Rattle.nx_recovery.proofs.Events.{recovers_to}
use Rattle.nx_recovery.proofs.Folding.{rules_fold}

pub text_items : (text : List ℕ) → IsUtf8 text → ItemsAreText (items_of_text text)
text_items text utf8 = all_text (tokens_of text) _ (tokens_are_text text utf8)

pub stands_along : (g : Language) → AreLive g.definitions → (tag : Option (List Name)) (here : Option Frame) (os : List (Open Frame)) (l : Form) (all : List Item) →
    InTags tag all → ItemsAreText all → StandsHere g tag (own_elements os) here l.here → StandAround g os l.elements → Along g here os all (found_along g l all)
unfolding found_along
stands_along g live tag here os l [] i t h k = at_end
stands_along g live tag here os l (items.Event e span ∷ all) i t h k =
    let w = recovers_to g live tag here os l e i.0 t.0 h k in
    by_event w.next w.behind (done_by g l e).flaw w.recovers (stands_along g live (tag_after tag e) w.next w.behind (done_by g l e).form all i.1 t.1 w.stands w.around)
stands_along g live tag here os l (items.Fault x ∷ all) i t h k = by_fault (stands_along g live tag here os l all i t.1 h k)

-- the same of a front of such items
pub along_front : (g : Language) → AreLive g.definitions → (tag : Option (List Name)) (here : Option Frame) (os : List (Open Frame)) (l : Form) (all rest : List Item) →
    InTags tag (all ++ rest) → ItemsAreText (all ++ rest) → StandsHere g tag (own_elements os) here l.here → StandAround g os l.elements → Along g here os all (found_along g l all)
unfolding found_along
along_front g live tag here os l [] rest i t h k = at_end
along_front g live tag here os l (items.Event e span ∷ all) rest i t h k =
    let w = recovers_to g live tag here os l e i.0 t.0 h k in
    by_event w.next w.behind (done_by g l e).flaw w.recovers (along_front g live (tag_after tag e) w.next w.behind (done_by g l e).form all rest i.1 t.1 w.stands w.around)
along_front g live tag here os l (items.Fault x ∷ all) rest i t h k = by_fault (along_front g live tag here os l all rest i t.1 h k)

pub recover_gives_faults : RecoverGivesFaults
recover_gives_faults None text live utf8 = rules_fold None text utf8
recover_gives_faults (Some g) text live utf8 =
    subst (λ (faults : List Fault). AreFaultsOf (Some g) text faults) (sym (rules_fold (Some g) text utf8))
    (stands_along g live.definitions None _ [] (first_levels (Some g)) (items_of_text text) (text_in_tags text) (text_items text utf8) (document_stands live.start) none_around)

pub every_text_has_faults : EveryTextHasFaults
every_text_has_faults schema text live utf8 = record { faults = machine_faults (recover_rules schema) text; are = recover_gives_faults schema text live utf8 }
