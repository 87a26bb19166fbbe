-- What may stand at a place: names, an end, values; and the order in which they are offered.
use Rattle.std.specs.Prelude.{◌≡◌, ◌↔◌, ℕ, List, [], ◌∷◌, ◌++◌, Option, Some, None, Contains}
use Rattle.std.specs.List.Sorted.{IsStrictlySortedBy}
use Rattle.std.specs.Ordering.{nat_cmp, then_cmp}
use Rattle.std.specs.declared.cmp.Ordering.{Ordering}
use Rattle.nx_base.specs.Trees as trees
use Rattle.nx_base.specs.declared.name.Name.{Name}
use Rattle.nx_base.specs.declared.offer.Offer.{Offer}
use Rattle.nx_base.specs.declared.offer.Offer.TheVariants as offer
use Rattle.rng_core.specs.Patterns.{Definition, Language}
use Rattle.rng_kept.specs.Events.{IsAmong, IsText}
use Rattle.rng_kept.specs.Mentioned.{IsUnmentioned, IsUnmentionedNamespace}
use Rattle.rng_kept.specs.Moves.{take, any_value}
use Rattle.rng_live.specs.Listed.{Mentions, MentionsNamespace, HasLiteral}
use Rattle.rng_live.specs.Order.{name_order}
use Rattle.nx_events.specs.declared.item.Event.{Event}
use Rattle.nx_events.specs.declared.item.Event.TheVariants.{Att}
use Rattle.nx_events.specs.declared.item.Item.{Item}
use Rattle.nx_events.specs.declared.item.Item.TheVariants as items
use Rattle.nx_recover.specs.Frames.{Frame, Can}
use Rattle.nx_recover.specs.declared.levels.Open.{Open}

-- ---- the order: names, those of a namespace, those of any other, values, ends; each kind by bytes

abbrev pub offer_kind : Offer → ℕ
offer_kind (offer.Name name) = 0
offer_kind (offer.AnyIn ns) = 1
offer_kind offer.AnyElse = 2
offer_kind (offer.Value text) = 3
offer_kind (offer.End written) = 4

-- by what offers of a kind are sorted: a name by its namespace and then its local part, a text by itself
abbrev pub offer_key : Offer → Name
offer_key (offer.Name name) = name
offer_key (offer.AnyIn ns) = record { ns = ns; local = [] }
offer_key offer.AnyElse = record { ns = []; local = [] }
offer_key (offer.Value text) = record { ns = text; local = [] }
offer_key (offer.End written) = record { ns = written; local = [] }

abbrev pub offer_order : Offer → Offer → Ordering
offer_order = then_cmp (λ a b. nat_cmp (offer_kind a) (offer_kind b)) (λ a b. name_order (offer_key a) (offer_key b))

-- exactly these are offered, in order and each once
pub record AreOffers (offered : Offer → Type 0) (offers : List Offer) : Type 0 where
  pub sorted : IsStrictlySortedBy offer_order offers
  pub exact : (o : Offer) → Contains offers o ↔ offered o

-- ---- names, of which some may stand here

-- some name of the namespace that the schema doesn't mention
pub record SomeOther (g : List Definition) (May : Name → Type 0) (ns : List ℕ) : Type 0 where
  pub name : Name
  pub of : name.ns ≡ ns
  pub unmentioned : IsUnmentioned g name
  pub may : May name

-- some name of a namespace that it doesn't mention
pub record SomeElse (g : List Definition) (May : Name → Type 0) : Type 0 where
  pub name : Name
  pub unmentioned : IsUnmentionedNamespace g name.ns
  pub may : May name

-- names that the schema mentions, one by one; those that it doesn't, by a namespace that it mentions, or all others at once. Where one
-- of these may stand, each may: the law of names that are admitted alike
abbrev pub NameOffered : List Definition → (Name → Type 0) → Offer → Type 0
NameOffered g May (offer.Name name) = Mentions g name × May name
NameOffered g May (offer.AnyIn ns) = MentionsNamespace g ns × SomeOther g May ns
NameOffered g May offer.AnyElse = SomeElse g May
NameOffered g May (offer.Value text) = ⊥
NameOffered g May (offer.End written) = ⊥

-- an element's name: its start is admitted
abbrev pub MayEnter : Language → Frame → Name → Type 0
MayEnter g f n = Can g f (take (trees.Enter n))

abbrev pub ElementOffered : Language → Frame → Offer → Type 0
ElementOffered g f o = NameOffered g.definitions (MayEnter g f) o

-- an attribute's name: it is admitted with some value, and no attribute so far in the tag has it
abbrev pub MayHave : Language → List Name → Frame → Name → Type 0
MayHave g others f n = Can g f (any_value n) × (IsAmong n others → ⊥)

abbrev pub AttributeOffered : Language → List Name → Frame → Offer → Type 0
AttributeOffered g others f o = NameOffered g.definitions (MayHave g others f) o

-- the names of the attributes among items
abbrev pub attribute_in : Event → List Name
attribute_in (Att n v) = n ∷ []
attribute_in _ = []

abbrev pub attributes_among : List Item → List Name
attributes_among [] = []
attributes_among (items.Event e s ∷ all) = attribute_in e ++ attributes_among all
attributes_among (items.Fault x ∷ all) = attributes_among all

-- ---- the end of the innermost open element, which has this written name, where it is admitted

abbrev pub IsSomeOpen : List (Open Frame) → Type 0
IsSomeOpen [] = ⊥
IsSomeOpen (o ∷ os) = Unit {0}

abbrev pub EndOffered : Language → List ℕ → List (Open Frame) → Frame → Offer → Type 0
EndOffered g written os f (offer.End other) = (other ≡ written) × IsSomeOpen os × Can g f (take trees.Leave)
EndOffered g written os f _ = ⊥

-- ---- values: literals of the schema with which the attribute is admitted, if it has a name

abbrev pub ValueOffered : Language → Option Name → Frame → Offer → Type 0
ValueOffered g (Some n) f (offer.Value text) = HasLiteral g.definitions text × IsText (trees.Att n text) × Can g f (take (trees.Att n text))
ValueOffered g (Some n) f _ = ⊥
ValueOffered g None f o = ⊥
