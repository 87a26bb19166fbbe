-- Tokens of which one look tells what they give and where they lead: most of a text. They give no fault and declare nothing.
use Rattle.std.specs.Prelude.{◌≡◌, ℕ, true, ◌-◌, ◌<◌, List, [], ◌∷◌, ◌++◌, length, None, unwrap_or}
use Rattle.std.specs.List.{prefix_len}
use Rattle.nx_base.specs.declared.name.Name.{Name}
use Rattle.nx_base.specs.declared.token.Token.{Token}
use Rattle.nx_events.specs.Items.{token_span, items_of_token, state_behind, element_ended}
use Rattle.nx_events.specs.Plain.{is_plain_in}
use Rattle.nx_events.specs.Runs.{run_joined, run_items}
use Rattle.nx_events.specs.Scopes.{last_uri}
use Rattle.nx_events.specs.declared.item.Item.TheVariants as items
use Rattle.nx_events.specs.declared.item.Event.TheVariants.{Enter, TagEnd, Leave}
use Rattle.nx_events.specs.declared.reading.Reading.TheVariants.{Text}
use Rattle.nx_events.specs.declared.scope.Binding.{Binding}
use Rattle.nx_events.specs.declared.state.EventState.{EventState}

-- the name of an element without a prefix
abbrev pub unprefixed_name : List Binding → List ℕ → Name
unprefixed_name scope local = record { ns = unwrap_or (last_uri scope []) []; local = local }

-- an element begins that declares nothing
abbrev pub element_begun : EventState → List ℕ → EventState
element_begun state written = record state {
  elements = state.elements ++ (record { written = written; outer = length state.scope }) ∷ [];
  came = true;
  started = true;
  run = None;
}

-- the innermost open element ends
abbrev pub innermost_ended : EventState → EventState
innermost_ended state = element_ended state (length state.elements - 1)

-- bytes that are their own string between tags
abbrev pub StandsForItself : List ℕ → Type 0
StandsForItself bytes = prefix_len (is_plain_in Text) bytes ≡ length bytes

-- such bytes stand there
abbrev pub characters_added : EventState → List ℕ → EventState
characters_added state bytes = record state { came = true; run = run_joined bytes (length bytes) state.run }

-- a start tag that gives the run before it, the element of this name and the end of its attributes
pub record IsPlainStart (state : EventState) (token : Token) (written : List ℕ) : Type 0 where
  pub items : items_of_token state token
      ≡ run_items token.from state.run
      ++ items.Event (Enter (unprefixed_name state.scope written)) (token_span token) ∷ items.Event TagEnd (token_span token) ∷ []
  pub behind : state_behind state token ≡ element_begun state written

-- an end tag that gives the run before it and the end of the innermost open element
pub record IsPlainEnd (state : EventState) (token : Token) : Type 0 where
  pub some : 0 < length state.elements
  pub items : items_of_token state token ≡ run_items token.from state.run ++ items.Event Leave (token_span token) ∷ []
  pub behind : state_behind state token ≡ innermost_ended state

-- character data that gives nothing
pub record IsPlainText (state : EventState) (token : Token) : Type 0 where
  pub items : items_of_token state token ≡ []
  pub behind : state_behind state token ≡ characters_added state token.bytes
  pub plain : StandsForItself token.bytes
