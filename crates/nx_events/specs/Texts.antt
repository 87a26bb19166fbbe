-- Names, strings and details are UTF-8 (RFC 3629), where the bytes of the tokens are.
use Rattle.std.specs.Prelude.{ℕ, List, Option, Some, None}
use Rattle.std.specs.List.{AllByRecursion}
use Rattle.std.specs.Str.{IsUtf8}
use Rattle.nx_base.specs.Rules.{lexeme_of, IsLexeme}
use Rattle.nx_base.specs.Tokens.{IsOfKind}
use Rattle.nx_base.specs.declared.name.Name.{Name}
use Rattle.nx_base.specs.declared.token.Token.{Token}
use Rattle.nx_events.specs.Items.{first_state, items_of_token, state_behind, items_at_end, items_of}
use Rattle.nx_events.specs.declared.scope.Binding.{Binding}
use Rattle.nx_events.specs.declared.state.EventState.{EventState}
use Rattle.nx_events.specs.declared.state.OpenElement.{OpenElement}
use Rattle.nx_events.specs.declared.state.Run.{Run}
use Rattle.nx_events.specs.declared.item.Event.{Event}
use Rattle.nx_events.specs.declared.item.Event.TheVariants.{Enter, EnterLost, Att, TagEnd, Chars, Leave}
use Rattle.nx_events.specs.declared.item.Item.{Item}
use Rattle.nx_events.specs.declared.item.Item.TheVariants as items

abbrev pub NameIsText : Name → Type 0
NameIsText name = IsUtf8 name.ns × IsUtf8 name.local

-- the prefix and the URI of a declaration
abbrev pub BindingIsText : Binding → Type 0
BindingIsText binding = IsUtf8 binding.prefix × IsUtf8 binding.uri

abbrev pub RunIsText : Option Run → Type 0
RunIsText None = Unit {0}
RunIsText (Some run) = IsUtf8 run.string

-- the written names of open elements, the declarations in force, and the string of the run that is pending
pub record StateIsText (state : EventState) : Type 0 where
  pub elements : AllByRecursion (λ (element : OpenElement). IsUtf8 element.written) state.elements
  pub scope : AllByRecursion BindingIsText state.scope
  pub run : RunIsText state.run

abbrev pub EventIsText : Event → Type 0
EventIsText (Enter name) = NameIsText name
EventIsText EnterLost = Unit {0}
EventIsText (Att name value) = NameIsText name × IsUtf8 value
EventIsText TagEnd = Unit {0}
EventIsText (Chars string) = IsUtf8 string
EventIsText Leave = Unit {0}

-- the parts of an event, and the detail of a fault
abbrev pub ItemIsText : Item → Type 0
ItemIsText (items.Event event span) = EventIsText event
ItemIsText (items.Fault fault) = IsUtf8 fault.detail

abbrev pub ItemsAreText : List Item → Type 0
ItemsAreText all = AllByRecursion ItemIsText all

-- a token that is UTF-8 and of its kind, at the start of a text or elsewhere
abbrev pub TokenIsText : Token → Type 0
TokenIsText token = IsUtf8 token.bytes × IsLexeme (lexeme_of token)

-- it gives such items, and leads from such a state to such a state
abbrev pub TokensGiveText : Type 0
TokensGiveText = (state : EventState) (token : Token) → TokenIsText token → StateIsText state →
    ItemsAreText (items_of_token state token) × StateIsText (state_behind state token)

-- the first state is such a state
abbrev pub FirstStateIsText : Type 0
FirstStateIsText = StateIsText first_state

-- and the end of a text gives such items
abbrev pub EndsGiveText : Type 0
EndsGiveText = (state : EventState) (len : ℕ) → StateIsText state → ItemsAreText (items_at_end state len)

-- so all tokens do
abbrev pub AllTokensGiveText : Type 0
AllTokensGiveText = (all : List Token) (len : ℕ) → AllByRecursion (λ (token : Token). IsUtf8 token.bytes × IsOfKind token) all →
    ItemsAreText (items_of all len)
