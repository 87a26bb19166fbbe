-- Where nothing in front of a place has a fault, the names and the end that it is offered are exactly those that some list of further
-- events completes to a valid document.
use Rattle.std.specs.Prelude.{◌↔◌, ℕ, ◌<◌, List, ◌++◌, Some, Contains, IsUtf8}
use Rattle.nx_base.specs.Trees as trees
use Rattle.nx_base.specs.declared.name.Name.{Name}
use Rattle.nx_base.specs.declared.offer.Offer.{Offer}
use Rattle.nx_base.specs.declared.offer.Offer.TheVariants as offer
use Rattle.nx_base.specs.declared.offer.Offers.{Offers}
use Rattle.nx_base.specs.declared.offer.Offers.TheVariants as answers
use Rattle.rng_core.specs.Patterns.{Language}
use Rattle.rng_kept.specs.Live.{IsLive}
use Rattle.nx_events.specs.Prefixes.{IsPrefix}
use Rattle.nx_events.specs.declared.item.Item.{Item}
use Rattle.nx_events.specs.declared.prefix.TagPrefix.{TagPrefix}
use Rattle.nx_events.specs.declared.prefix.TagPrefix.TheVariants.{ElementName, EndName, AttributeName, AttributeValue, Elsewhere}
use Rattle.nx_recover.specs.Completing.{IsErrorFree, Completes, Closes, CompletesAttribute, DenotesElement, DenotesAttribute}
use Rattle.nx_recover.specs.Offered.{attributes_among}
use Rattle.nx_recover.specs.Offers.{UpTo, state_before, items_before, bytes_before, OffersOf}

-- the answer has offers, which denote exactly the names of which this holds
abbrev pub DenotesExactly : (List Offer → Name → Type 0) → (Name → Type 0) → Offers → Type 0
DenotesExactly denotes P answers.Nowhere = ⊥
DenotesExactly denotes P (answers.List offers) = (n : Name) → denotes offers n ↔ P n

-- it has offers, and this one is among them exactly where this holds
abbrev pub OffersExactly : Offer → Type 0 → Offers → Type 0
OffersExactly o P answers.Nowhere = ⊥
OffersExactly o P (answers.List offers) = Contains offers o ↔ P

-- by what is being written there, where these events stand in front of it without a fault. Of attributes' values nothing is said
abbrev pub IsExact : Language → List Item → TagPrefix → Offers → Type 0
IsExact g before ElementName answer = (k : List trees.Event) → IsErrorFree g before k
    → DenotesExactly (DenotesElement g.definitions) (Completes g k) answer
IsExact g before (EndName written) answer = (k : List trees.Event) → IsErrorFree g before k
    → OffersExactly (offer.End written) (Closes g k) answer
IsExact g before (AttributeName own) answer = (k : List trees.Event) → IsErrorFree g (before ++ own) k
    → DenotesExactly (DenotesAttribute g.definitions (attributes_among own)) (CompletesAttribute g k) answer
IsExact g before (AttributeValue own name) answer = Unit {0}
IsExact g before Elsewhere answer = Unit {0}

-- the answer at a place of a text, with what is being written there
pub record ExactOffers (g : Language) (text : List ℕ) (at : ℕ) (answer : Offers) : Type 0 where
  pub place : UpTo text at
  pub prefix : TagPrefix
  pub is : IsPrefix (state_before place) (bytes_before place) prefix
  pub exact : IsExact g (items_before place) prefix answer

abbrev pub OffersAreExact : Type 0
OffersAreExact = (g : Language) → IsLive g → (text : List ℕ) → IsUtf8 text → (at : ℕ) → 0 < at → (answer : Offers) →
    OffersOf (Some g) text at answer → ExactOffers g text at answer
