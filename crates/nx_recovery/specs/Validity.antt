-- A text has no faults exactly where it is valid.
use Rattle.std.specs.Prelude.{◌≡◌, ◌↔◌, ℕ, List, [], Some, map}
use Rattle.std.specs.Str.{IsUtf8}
use Rattle.nx_base.specs.Tokens.{tokens_of}
use Rattle.nx_base.specs.Trees.{Tree, Event, alone}
use Rattle.rng_core.specs.Patterns.{Language}
use Rattle.rng_core.specs.Matching.{Matches}
use Rattle.rng_core.specs.Validity.{Valid}
use Rattle.rng_kept.specs.Live.{IsLive}
use Rattle.nx_events.specs.Among.{faults_among, events_among}
use Rattle.nx_events.specs.Items.{items_of_text}
use Rattle.nx_events.specs.TreeEvents.{as_event}
use Rattle.nx_document.specs.Document.{Document}
use Rattle.nx_recover.specs.Faults.{AreFaultsOf}

-- a document whose tree the schema matches
pub record IsValidDocument (g : Language) (text : List ℕ) : Type 0 where
  pub tree : Tree
  pub document : Document (tokens_of text) tree
  pub matched : Matches g.definitions g.start [] (alone tree)

abbrev pub NoFaultsIsValid : Type 0
NoFaultsIsValid = (g : Language) → IsLive g → (text : List ℕ) → IsUtf8 text →
    AreFaultsOf (Some g) text [] ↔ IsValidDocument g text

-- the same without a document: items without a fault, whose events are valid
pub record HasValidEvents (g : Language) (text : List ℕ) : Type 0 where
  pub faultless : faults_among (items_of_text text) ≡ []
  pub events : List Event
  pub are : events_among (items_of_text text) ≡ map as_event events
  pub valid : Valid g.definitions g.start events

abbrev pub NoFaultsHaveValidEvents : Type 0
NoFaultsHaveValidEvents = (g : Language) → IsLive g → (text : List ℕ) → IsUtf8 text →
    AreFaultsOf (Some g) text [] ↔ HasValidEvents g text
