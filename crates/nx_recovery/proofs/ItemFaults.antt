-- Where recovery finds no fault, each event is taken as it comes, and so it is in any text with the same events.
use Rattle.std.proofs.Common.{◌≡◌, ℕ, List, [], ◌∷◌, ◌++◌, Option, Some, None, refl, sym, ap, subst}
use Rattle.std.specs.Prelude.{IfSome}
use Rattle.nx_base.specs.declared.fault.Fault.{Fault}
use Rattle.nx_events.specs.Among.{events_among, faults_among}
use Rattle.nx_events.specs.Items.{items_of_text}
use Rattle.nx_events.specs.declared.flaw.Flaw.{Flaw}
use Rattle.nx_events.specs.declared.item.Event.{Event}
use Rattle.nx_events.specs.declared.item.Item.{Item}
use Rattle.nx_events.specs.declared.item.Item.TheVariants as items
use Rattle.nx_base.specs.Trees as trees
use Rattle.nx_recover.specs.Faults.{Along, at_end, by_event, by_fault, flaw_at, AreFaultsOf}
use Rattle.nx_recover.specs.Frames.{Frame, document_frame}
use Rattle.nx_recover.specs.Nesting.{LevelsAfter, enters, enters_own, enters_unknown, attribute, tag_end, text, leaves, leaves_own, enters_known, enters_lost}
use Rattle.nx_recover.specs.Nesting.{attribute_lost, tag_end_lost, text_lost, loses_nameless, leaves_lost, leaves_nothing, leaves_nowhere, leaves_own_nowhere}
use Rattle.nx_recover.specs.Outcomes.{Outcome, Recovers, EndsElement, admitted, not_yet, not_allowed, unknown, bad_value, unknown_attribute}
use Rattle.nx_recover.specs.Outcomes.{lacks_attributes, bad_text, text_not_allowed, complete, incomplete}
use Rattle.nx_recover.specs.declared.levels.Open.{Open}
use Rattle.nx_recovery.specs.ItemFaults.{IsAgainstSchema, NoneAgainstSchema, SameEventsHaveItemFaults}
use Rattle.rng_core.specs.Patterns.{Language}

-- ---- what recovery finds is against the schema

abbrev OfTable : Option Flaw → Type 0
OfTable found = IfSome found (λ (flaw : Flaw). IsAgainstSchema flaw.kind)

of_table : {g : Language} {f : Frame} {e : trees.Event} {out : Outcome} {w : Option Flaw} → Recovers g f e out w → OfTable w
of_table (admitted _) = tt
of_table (not_yet _ _ _ _) = tt
of_table (not_allowed _ _ _) = tt
of_table (unknown _ _ _) = tt
of_table (bad_value _ _) = tt
of_table (unknown_attribute _ _) = tt
of_table (lacks_attributes _ _ _) = tt
of_table (bad_text _ _) = tt
of_table (text_not_allowed _ _) = tt

of_end : {g : Language} {f k : Frame} {n : _} {w : Option Flaw} → EndsElement g f n k w → OfTable w
of_end (complete _) = tt
of_end (incomplete _ _ _) = tt

of_step : {g : Language} {here next : Option Frame} {os behind : List (Open Frame)} {e : Event} {w : Option Flaw} → LevelsAfter g here os e next behind w → OfTable w
of_step (enters r) = of_table r
of_step (enters_own r) = of_table r
of_step (enters_unknown r) = of_table r
of_step (attribute r) = of_table r
of_step (tag_end r) = of_table r
of_step (text r) = of_table r
of_step (leaves r) = of_end r
of_step (leaves_own r) = of_end r
of_step (enters_known _) = tt
of_step (enters_lost _) = tt
of_step attribute_lost = tt
of_step tag_end_lost = tt
of_step text_lost = tt
of_step loses_nameless = tt
of_step leaves_lost = tt
of_step leaves_nothing = tt
of_step leaves_nowhere = tt
of_step leaves_own_nowhere = tt

-- ---- each event is taken without a fault

abbrev Quiet : Language → Option Frame → List (Open Frame) → List Event → Type 0
Quiet g here os [] = Unit {0}
Quiet g here os (e ∷ es) = (next : Option Frame) × (behind : List (Open Frame)) × LevelsAfter g here os e next behind None × Quiet g next behind es

record IsQuiet (g : Language) (here : Option Frame) (os : List (Open Frame)) (all : List Item) (faults : List Fault) : Type 0 where
  quiet : Quiet g here os (events_among all)
  own : faults ≡ faults_among all

quiet_step : {g : Language} {here : Option Frame} {os : List (Open Frame)} {e : Event} {s : _} {all : List Item} {faults : List Fault}
    (next : Option Frame) (behind : List (Open Frame)) (w : Option Flaw) → LevelsAfter g here os e next behind w → NoneAgainstSchema (flaw_at s w ++ faults)
    → (NoneAgainstSchema faults → IsQuiet g next behind all faults) → IsQuiet g here os (items.Event e s ∷ all) (flaw_at s w ++ faults)
quiet_step next behind None step none more = let rest = more none in record { quiet = (next, behind, step, rest.quiet); own = rest.own }
quiet_step next behind (Some w) step none more = absurd (none.0 (of_step step))

quiet_along : {g : Language} {here : Option Frame} {os : List (Open Frame)} {all : List Item} {faults : List Fault} → Along g here os all faults → NoneAgainstSchema faults
    → IsQuiet g here os all faults
quiet_along at_end none = record { quiet = tt; own = refl }
quiet_along (by_event next behind w step rest) none = quiet_step next behind w step none (λ k. quiet_along rest k)
quiet_along (by_fault {x = x} rest) none =
    let more = quiet_along rest none.1 in
    record { quiet = more.quiet; own = ap (λ faults. x ∷ faults) more.own }

along_quiet : (g : Language) (here : Option Frame) (os : List (Open Frame)) (all : List Item) → Quiet g here os (events_among all) → Along g here os all (faults_among all)
along_quiet g here os [] quiet = at_end
along_quiet g here os (items.Event e s ∷ all) quiet = by_event quiet.0 quiet.1 None quiet.2 (along_quiet g quiet.0 quiet.1 all quiet.3)
along_quiet g here os (items.Fault x ∷ all) quiet = by_fault (along_quiet g here os all quiet)

pub same_events_have_item_faults : SameEventsHaveItemFaults
same_events_have_item_faults None whole other faults are none same = (are, refl)
same_events_have_item_faults (Some g) whole other faults are none same =
    let quiet = quiet_along are none in
    let P : List Event → Type 0 = λ es. Quiet g (Some (document_frame g)) [] es in
    (quiet.own, along_quiet g (Some (document_frame g)) [] (items_of_text other) (subst P same quiet.quiet))
