-- Texts of which no fault is against the schema, and their faults: those of their items.
use Rattle.std.specs.Prelude.{◌≡◌, ℕ, List, Option}
use Rattle.std.specs.List.{AllByRecursion}
use Rattle.nx_base.specs.declared.fault.Fault.{Fault}
use Rattle.nx_base.specs.declared.fault.Kind.{Kind}
use Rattle.nx_base.specs.declared.fault.Kind.TheVariants as kinds
use Rattle.nx_events.specs.Among.{events_among, faults_among}
use Rattle.nx_events.specs.Items.{items_of_text}
use Rattle.nx_recover.specs.Faults.{AreFaultsOf}
use Rattle.rng_core.specs.Patterns.{Language}

-- the kinds of recovery's table
abbrev pub IsAgainstSchema : Kind → Type 0
IsAgainstSchema kinds.Unknown = Unit {0}
IsAgainstSchema kinds.NotAllowed = Unit {0}
IsAgainstSchema kinds.NotYet = Unit {0}
IsAgainstSchema kinds.Incomplete = Unit {0}
IsAgainstSchema kinds.MissingAttributes = Unit {0}
IsAgainstSchema kinds.UnknownAttribute = Unit {0}
IsAgainstSchema kinds.BadValue = Unit {0}
IsAgainstSchema kinds.TextNotAllowed = Unit {0}
IsAgainstSchema _ = ⊥

abbrev pub NoneAgainstSchema : List Fault → Type 0
NoneAgainstSchema faults = AllByRecursion (λ (fault : Fault). ¬ IsAgainstSchema fault.kind) faults

-- where no fault of a text is against the schema, they are those of its characters, markup, nesting and namespaces; and so are the faults
-- of any text with the same events
abbrev pub SameEventsHaveItemFaults : Type 0
SameEventsHaveItemFaults = (schema : Option Language) (text other : List ℕ) (faults : List Fault) →
    AreFaultsOf schema text faults → NoneAgainstSchema faults →
    events_among (items_of_text text) ≡ events_among (items_of_text other) →
    (faults ≡ faults_among (items_of_text text)) × AreFaultsOf schema other (faults_among (items_of_text other))
