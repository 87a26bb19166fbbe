-- The answer to what is being written, told of residuals.
use Rattle.std.specs.Prelude.{◌≡◌, ℕ, List, [], ◌∷◌, Option, Some, None}
use Rattle.nx_base.specs.declared.fault.Span.{Span}
use Rattle.nx_base.specs.declared.name.Name.{Name}
use Rattle.nx_base.specs.declared.offer.Offer.{Offer}
use Rattle.nx_base.specs.declared.offer.Offers.{Offers}
use Rattle.nx_base.specs.declared.offer.Offers.TheVariants as answers
use Rattle.rng_core.specs.Patterns.{Language}
use Rattle.rng_kept.specs.Residuals.{Residual}
use Rattle.nx_events.specs.Prefixes.{run_string, IsPrefix}
use Rattle.nx_events.specs.Texts.{ItemsAreText}
use Rattle.nx_events.specs.declared.item.Event.TheVariants.{Chars}
use Rattle.nx_events.specs.declared.item.Item.{Item}
use Rattle.nx_events.specs.declared.item.Item.TheVariants as items
use Rattle.nx_events.specs.declared.prefix.TagPrefix.{TagPrefix}
use Rattle.nx_events.specs.declared.prefix.TagPrefix.TheVariants.{ElementName, EndName, AttributeName, AttributeValue, Elsewhere}
use Rattle.nx_events.specs.declared.state.EventState.{EventState}
use Rattle.nx_events.specs.declared.state.Run.{Run}
use Rattle.nx_recover.specs.Items.{form_along}
use Rattle.nx_recover.specs.Offered.{attributes_among}
use Rattle.nx_recover.specs.Table.{Form}
use Rattle.nx_recover.specs.declared.levels.Open.{Open}
use Rattle.nx_complete.specs.Asking.{ListsNames, ListsValues, end_listed}
use Rattle.nx_complete.specs.declared.naming.Naming.TheVariants.{Element, Attribute}

-- nothing is said where nothing goes on; otherwise these are listed
abbrev pub Lists : (Residual → List Offer → Type 0) → Option Residual → Offers → Type 0
Lists listed None answer = answer ≡ answers.Nowhere
Lists listed (Some x) answers.Nowhere = ⊥
Lists listed (Some x) (answers.List offers) = listed x offers

abbrev pub ElementAnswer : Language → Form → Offers → Type 0
ElementAnswer g l answer = Lists (ListsNames g.definitions Element) l.here answer

abbrev pub ends_among : List ℕ → List (Open Residual) → Residual → List Offer
ends_among written [] x = []
ends_among written (o ∷ os) x = end_listed written x

abbrev pub EndAnswer : List ℕ → Form → Offers → Type 0
EndAnswer written l answer = Lists (λ x offers. offers ≡ ends_among written l.elements x) l.here answer

-- in a lost element nothing goes on in a tag
abbrev pub inside : Option Residual → Option Residual → Option Residual
inside None own = None
inside (Some x) own = own

abbrev pub AttributeAnswer : Language → List Item → Form → Offers → Type 0
AttributeAnswer g own l answer =
    Lists (ListsNames g.definitions (Attribute (attributes_among own))) (inside l.here (form_along g l own).here) answer

abbrev pub ValueAnswer : Language → List Item → Option Name → Form → Offers → Type 0
ValueAnswer g own name l answer = Lists (ListsValues g.definitions name) (inside l.here (form_along g l own).here) answer

abbrev pub PrefixAnswer : Language → Form → TagPrefix → Offers → Type 0
PrefixAnswer g l ElementName answer = ElementAnswer g l answer
PrefixAnswer g l (EndName written) answer = EndAnswer written l answer
PrefixAnswer g l (AttributeName own) answer = AttributeAnswer g own l answer
PrefixAnswer g l (AttributeValue own name) answer = ValueAnswer g own name l answer
PrefixAnswer g l Elsewhere answer = answer ≡ answers.Nowhere

-- the items that it holds are text
abbrev pub PrefixIsText : TagPrefix → Type 0
PrefixIsText ElementName = Unit {0}
PrefixIsText (EndName written) = Unit {0}
PrefixIsText (AttributeName own) = ItemsAreText own
PrefixIsText (AttributeValue own name) = ItemsAreText own
PrefixIsText Elsewhere = Unit {0}

-- a run as an event, wherever it stands
abbrev pub string_event : Option (List ℕ) → List Item
string_event None = []
string_event (Some string) = items.Event (Chars string) (record { from = 0; to = 0 }) ∷ []

abbrev pub run_event : Option Run → List Item
run_event run = string_event (run_string run)

-- behind these levels and the pending run, by what is being written there
pub record IsAnswer (g : Language) (l : Form) (events : EventState) (bytes : List ℕ) (answer : Offers) : Type 0 where
  pub prefix : TagPrefix
  pub is : IsPrefix events bytes prefix
  pub are : PrefixAnswer g (form_along g l (run_event events.run)) prefix answer
