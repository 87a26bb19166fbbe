-- Lists of events that complete what stands in front of a place to a valid document: ISO/IEC 19757-2, section 9.4.
use Rattle.std.specs.Prelude.{◌≡◌, ℕ, List, [], ◌∷◌, ◌++◌, map, Some, IsTrue, Contains}
use Rattle.nx_base.specs.Characters.{is_of_chars}
use Rattle.nx_base.specs.Names.{is_xml_name, is_attribute_name}
use Rattle.nx_base.specs.Trees as trees
use Rattle.nx_base.specs.declared.name.Name.{Name}
use Rattle.nx_base.specs.declared.offer.Offer.{Offer}
use Rattle.nx_base.specs.declared.offer.Offer.TheVariants as offer
use Rattle.rng_core.specs.Patterns.{Definition, Language}
use Rattle.rng_core.specs.Validity.{Viable}
use Rattle.rng_kept.specs.Events.{IsAmong}
use Rattle.rng_kept.specs.Mentioned.{IsUnmentioned, IsUnmentionedNamespace}
use Rattle.nx_events.specs.Among.{events_among}
use Rattle.nx_events.specs.TreeEvents.{as_event}
use Rattle.nx_events.specs.declared.item.Item.{Item}
use Rattle.nx_recover.specs.Faults.{Along}
use Rattle.nx_recover.specs.Frames.{document_frame}

-- these items have no fault, neither of their own nor of recovery, and these are their events
pub record IsErrorFree (g : Language) (all : List Item) (k : List trees.Event) : Type 0 where
  pub faultless : Along g (Some (document_frame g)) [] all []
  pub events : events_among all ≡ map as_event k

-- an element of this name, the end of an element, or an attribute of this name with some value may follow: behind it some list that can
-- be written makes the whole valid
abbrev pub Completes : Language → List trees.Event → Name → Type 0
Completes g k n = Viable g.definitions g.start (k ++ trees.Enter n ∷ [])

abbrev pub Closes : Language → List trees.Event → Type 0
Closes g k = Viable g.definitions g.start (k ++ trees.Leave ∷ [])

pub record CompletesAttribute (g : Language) (k : List trees.Event) (n : Name) : Type 0 where
  pub value : List ℕ
  pub of_chars : IsTrue (is_of_chars value)
  pub viable : Viable g.definitions g.start (k ++ trees.Att n value ∷ [])

-- the names that offers denote: those that they tell, and those that the schema doesn't mention, of a namespace or of all namespaces that
-- it doesn't mention
pub data Denotes (g : List Definition) (offers : List Offer) (n : Name) : Type 0 where
  by_name : Contains offers (offer.Name n) → Denotes g offers n
  by_namespace : Contains offers (offer.AnyIn n.ns) → IsUnmentioned g n → Denotes g offers n
  by_rest : Contains offers offer.AnyElse → IsUnmentionedNamespace g n.ns → Denotes g offers n

-- as names of elements, and of attributes beside those that the tag has
abbrev pub DenotesElement : List Definition → List Offer → Name → Type 0
DenotesElement g offers n = Denotes g offers n × IsTrue (is_xml_name n)

abbrev pub DenotesAttribute : List Definition → List Name → List Offer → Name → Type 0
DenotesAttribute g others offers n = Denotes g offers n × IsTrue (is_attribute_name n) × (IsAmong n others → ⊥)
