-- Where levels stand, those behind an event stand.
use Rattle.std.proofs.Common.{List, Option, subst}
use Rattle.nx_base.specs.declared.name.Name.{Name}
use Rattle.nx_events.specs.Texts.{EventIsText}
use Rattle.nx_events.specs.declared.flaw.Flaw.{Flaw}
use Rattle.nx_events.specs.declared.item.Event.{Event}
use Rattle.rng_core.specs.Patterns.{Language}
use Rattle.rng_kept.specs.Live.{AreLive}
use Rattle.nx_recover.specs.Frames.{Frame}
use Rattle.nx_recover.specs.Nesting.{LevelsAfter}
use Rattle.nx_recover.specs.Table.{Form, done_by}
use Rattle.nx_recover.specs.declared.levels.Open.{Open}
use Rattle.nx_recovery.proofs.Tags.{Fits}
use Rattle.nx_recovery.specs.Levels.{tag_after, own_elements, StandsHere, StandAround}
use Rattle.nx_recovery.proofs.Uniqueness.{one_event}
use Rattle.nx_recovery.proofs.Events.{recovers_to}

-- some residuals stand for these levels
pub record LevelsStand (g : Language) (tag : Option (List Name)) (here : Option Frame) (os : List (Open Frame)) : Type 0 where
  pub form : Form
  pub stands : StandsHere g tag (own_elements os) here form.here
  pub around : StandAround g os form.elements

pub follow : (g : Language) → AreLive g.definitions → (tag : Option (List Name)) {here next : Option Frame} {os behind : List (Open Frame)} (e : Event) {w : Option Flaw} →
    Fits tag e → EventIsText e → LevelsStand g tag here os → LevelsAfter g here os e next behind w → LevelsStand g (tag_after tag e) next behind
follow g live tag {here = here} {next = next} {os = os} {behind = behind} e fits text l after =
    let r = recovers_to g live tag here os l.form e fits text l.stands l.around in
    let same = one_event r.recovers after in
    let there : LevelsStand g (tag_after tag e) r.next r.behind = record { form = (done_by g l.form e).form; stands = r.stands; around = r.around } in
    subst (λ (o : List (Open Frame)). LevelsStand g (tag_after tag e) next o) same.elements
    (subst (λ (h : Option Frame). LevelsStand g (tag_after tag e) h r.behind) same.here there)
