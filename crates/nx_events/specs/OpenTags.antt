-- The state behind a list of tokens, told by the tokens alone: which start tags are open (XML 1.0, 3, Element Type Match),
-- what they declare (Namespaces in XML 1.0, 6.1), and which tokens the pending run has.
use Rattle.std.specs.Prelude.{◌≡◌, ◌≢◌, ℕ, ◌+◌, ◌<◌, Bool, true, false, not, List, [], ◌∷◌, ◌++◌, length, Option, Some, None}
use Rattle.std.specs.List.{AllByRecursion, flat_map, list_any}
use Rattle.nx_base.specs.Tokens.{AreTokensOf, end_of}
use Rattle.nx_base.specs.declared.token.Token.{Token}
use Rattle.nx_base.specs.declared.token.TokenKind.{TokenKind}
use Rattle.nx_base.specs.declared.token.TokenKind.TheVariants as kinds
use Rattle.nx_events.specs.Tags.{start_name, end_name}
use Rattle.nx_events.specs.Strings.{string_of, cdata_content}
use Rattle.nx_events.specs.Items.{first_state, state_behind, own_bindings, is_doctype}
use Rattle.nx_events.specs.declared.reading.Reading.TheVariants.{Plain, Text}
use Rattle.nx_events.specs.declared.state.EventState.{EventState}
use Rattle.nx_events.specs.declared.state.OpenElement.{OpenElement}
use Rattle.nx_events.specs.declared.state.Run.{Run}

-- the state behind all tokens of a list
unfoldable pub state_after : EventState → List Token → EventState
state_after state [] = state
state_after state (token ∷ others) = state_after (state_behind state token) others

abbrev pub IsCharacterData : TokenKind → Type 0
IsCharacterData kinds.Text = Unit {0}
IsCharacterData kinds.Cdata = Unit {0}
IsCharacterData _ = ⊥

-- neither a tag nor character data
abbrev pub IsPassed : TokenKind → Type 0
IsPassed kinds.Text = ⊥
IsPassed kinds.Cdata = ⊥
IsPassed kinds.Start = ⊥
IsPassed kinds.Empty = ⊥
IsPassed kinds.End = ⊥
IsPassed _ = Unit {0}

-- none of these start tags has the name of the end tag
abbrev pub NoneNamed : List Token → Token → Type 0
NoneNamed tags end_tag = AllByRecursion (λ (tag : Token). start_name tag.bytes ≢ end_name end_tag.bytes) tags

-- behind these tokens these start tags are open, the outermost first, which no later end tag has closed; and these tokens of
-- character data stand in one run, which no tag has ended
pub data Leaves : List Token → List Token → List Token → Type 0 where
  nothing_read : (all tags run : List Token) → all ≡ [] → tags ≡ [] → run ≡ [] → Leaves all tags run
  -- a start tag and an empty-element tag end the run
  start_tag : (all tags run before around ended : List Token) (token : Token) → Leaves before around ended → all ≡ before ++ token ∷ [] →
      token.kind ≡ kinds.Start → tags ≡ around ++ token ∷ [] → run ≡ [] → Leaves all tags run
  empty_tag : (all tags run before ended : List Token) (token : Token) → Leaves before tags ended → all ≡ before ++ token ∷ [] →
      token.kind ≡ kinds.Empty → run ≡ [] → Leaves all tags run
  -- an end tag closes the innermost open start tag of its name, with all that are open inside of it, and ends the run
  end_tag : (all tags run before inner ended : List Token) (closed token : Token) → Leaves before (tags ++ closed ∷ inner) ended
      → all ≡ before ++ token ∷ [] →
      token.kind ≡ kinds.End → start_name closed.bytes ≡ end_name token.bytes → NoneNamed inner token → run ≡ [] → Leaves all tags run
  -- one that names no open start tag leaves all as it is
  extra_end : (all tags run before : List Token) (token : Token) → Leaves before tags run → all ≡ before ++ token ∷ [] →
      token.kind ≡ kinds.End → NoneNamed tags token → Leaves all tags run
  -- character data inside of an element goes on with the run; outside it leaves all as it is
  data_inside : (all tags run before joined : List Token) (token : Token) → Leaves before tags joined → all ≡ before ++ token ∷ [] →
      IsCharacterData token.kind → 0 < length tags → run ≡ joined ++ token ∷ [] → Leaves all tags run
  data_outside : (all tags run before : List Token) (token : Token) → Leaves before tags run → all ≡ before ++ token ∷ [] →
      IsCharacterData token.kind → tags ≡ [] → Leaves all tags run
  -- so does every other token
  passed : (all tags run before : List Token) (token : Token) → Leaves before tags run → all ≡ before ++ token ∷ []
      → IsPassed token.kind → Leaves all tags run

-- the elements of start tags, each with its written name and with how many pairs are declared around it
unfoldable pub elements_of : ℕ → List Token → List OpenElement
elements_of outer [] = []
elements_of outer (tag ∷ inner) =
    (record { written = start_name tag.bytes; outer = outer }) ∷ elements_of (outer + length (own_bindings tag)) inner

-- the string of character data
abbrev pub string_by_kind : TokenKind → List ℕ → List ℕ
string_by_kind kinds.Cdata bytes = string_of Plain (cdata_content bytes)
string_by_kind _ bytes = string_of Text bytes

abbrev pub string_in : Token → List ℕ
string_in token = string_by_kind token.kind token.bytes

abbrev pub last_of : Token → List Token → Token
last_of token [] = token
last_of token (other ∷ others) = last_of other others

-- a run of these tokens, where the last token of all ended at the place `at`: their strings joined, and the distances back
-- from there to the start of the first of them and to the end of the last
pub record IsTextRunOf (at : ℕ) (first : Token) (others : List Token) (run : Run) : Type 0 where
  pub string : run.string ≡ flat_map string_in (first ∷ others)
  pub begins : first.from + run.len + run.gap ≡ at
  pub ends : end_of (last_of first others) + run.gap ≡ at

-- the pending run has these tokens, and where there are none, none is pending
abbrev pub IsPending : ℕ → List Token → Option Run → Type 0
IsPending at [] run = run ≡ None
IsPending at (first ∷ others) None = ⊥
IsPending at (first ∷ others) (Some run) = IsTextRunOf at first others run

abbrev pub is_order_mark : TokenKind → Bool
is_order_mark kinds.Bom = true
is_order_mark _ = false

abbrev pub is_opening : TokenKind → Bool
is_opening kinds.Start = true
is_opening kinds.Empty = true
is_opening _ = false

-- a state, where these start tags are open behind all tokens so far, which end at the place `at`, and the run has these tokens:
-- each of its parts
pub record IsStateOf (at : ℕ) (all tags run : List Token) (state : EventState) : Type 0 where
  pub elements : state.elements ≡ elements_of 0 tags
  pub scope : state.scope ≡ flat_map own_bindings tags
  pub pending : IsPending at run state.run
  pub came : state.came ≡ list_any (λ (token : Token). not (is_order_mark token.kind)) all
  pub doctype : state.doctype ≡ list_any (λ (token : Token). is_doctype token.kind) all
  pub started : state.started ≡ list_any (λ (token : Token). is_opening token.kind) all

-- each list of tokens that lie one behind another leaves exactly one list of open start tags and one run, and they make the state
abbrev pub StatesAreKnown : Type 0
StatesAreKnown = (all : List Token) (at : ℕ) → AreTokensOf at all →
    (tags run : List Token) × Leaves all tags run × ((other more : List Token) → Leaves all other more → (other ≡ tags) × (more ≡ run))
    × IsStateOf at all tags run (state_after first_state all)
