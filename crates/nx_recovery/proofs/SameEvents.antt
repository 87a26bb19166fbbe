-- What recovery has behind tokens depends on their events, and on the state of events behind them.
use Rattle.std.proofs.Common.{◌≡◌, List, [], ◌∷◌, ◌++◌, Option, Some, None, refl, sym, ap, ◌∙◌}
use Rattle.nx_base.specs.Rules.{Lexeme}
use Rattle.nx_base.specs.Running.{after_all}
use Rattle.nx_events.specs.Among.{events_among}
use Rattle.nx_events.specs.BareRules.{bare_rules}
use Rattle.nx_events.specs.declared.item.Event.{Event}
use Rattle.nx_events.specs.declared.item.Item.{Item}
use Rattle.nx_events.specs.declared.item.Item.TheVariants as items
use Rattle.nx_events.specs.declared.state.EventState.{EventState}
use Rattle.rng_core.specs.Patterns.{Language}
use Rattle.nx_recover.specs.Items.{form_along}
use Rattle.nx_recover.specs.RecoverRules.{Recovered, recover_rules, items_given, levels_behind}
use Rattle.nx_recover.specs.Table.{Form, done_by}
use Rattle.nx_recovery.specs.SameEvents.{events_along, SameEventsLeadOnAlike}

-- the levels behind events
abbrev by_events : Option Language → Form → List Event → Form
by_events None l all = l
by_events (Some g) l [] = l
by_events (Some g) l (e ∷ es) = by_events (Some g) (done_by g l e).form es

-- those behind items are those behind the events among them
of_items : (schema : Option Language) (l : Form) (all : List Item) → levels_behind schema l all ≡ by_events schema l (events_among all)
unfolding form_along
of_items None l all = refl
of_items (Some g) l [] = refl
of_items (Some g) l (items.Event e s ∷ all) = of_items (Some g) (done_by g l e).form all
of_items (Some g) l (items.Fault x ∷ all) = of_items (Some g) l all

by_append : (schema : Option Language) (l : Form) (xs ys : List Event) → by_events schema l (xs ++ ys) ≡ by_events schema (by_events schema l xs) ys
by_append None l xs ys = refl
by_append (Some g) l [] ys = refl
by_append (Some g) l (x ∷ xs) ys = by_append (Some g) (done_by g l x).form xs ys

-- so those behind tokens are those behind their events
levels_through : (schema : Option Language) (m : Recovered) (ks : List Lexeme) →
    (after_all (recover_rules schema) m ks).levels ≡ by_events schema m.levels (events_along m.events ks)
levels_through None m [] = refl
levels_through (Some g) m [] = refl
levels_through schema m (k ∷ ks) =
    let next : Recovered = (recover_rules schema).after m k in
    levels_through schema next ks
    ∙ ap (λ (l : Form). by_events schema l (events_along next.events ks)) (of_items schema m.levels (items_given m k))
    ∙ sym (by_append schema m.levels (events_among (items_given m k)) (events_along next.events ks))

events_after : (schema : Option Language) (m : Recovered) (ks : List Lexeme) → (after_all (recover_rules schema) m ks).events ≡ after_all bare_rules m.events ks
events_after schema m [] = refl
events_after schema m (k ∷ ks) = events_after schema ((recover_rules schema).after m k) ks

same_parts : (a b : Recovered) → a.events ≡ b.events → a.levels ≡ b.levels → a ≡ b
same_parts a b e l =
    let first : a ≡ record { events = b.events; levels = a.levels } = ap (λ (s : EventState). record { events = s; levels = a.levels }) e in
    let second : record { events = b.events; levels = a.levels } ≡ b = ap (λ (f : Form). record { events = b.events; levels = f }) l in
    first ∙ second

pub same_events_lead_on_alike : SameEventsLeadOnAlike
same_events_lead_on_alike schema m one other alike =
    same_parts (after_all (recover_rules schema) m one) (after_all (recover_rules schema) m other)
    (events_after schema m one ∙ alike.states ∙ sym (events_after schema m other))
    (levels_through schema m one ∙ ap (by_events schema m.levels) alike.events ∙ sym (levels_through schema m other))
