-- What another name for an element gives: its tokens and items are those before, moved with the text, but for the element's name.
use Rattle.std.specs.Prelude.{◌≡◌, ℕ, ◌+◌, ◌-◌, nat_lt, nat_le, true, if◌then◌else◌, List, [], ◌∷◌, ◌++◌, length, map, slice_range}
use Rattle.std.specs.Str.{IsUtf8}
use Rattle.nx_base.specs.Tokens.{end_of, tokens_of}
use Rattle.nx_base.specs.declared.change.Change.{Change}
use Rattle.nx_base.specs.declared.fault.Fault.{Fault}
use Rattle.nx_base.specs.declared.fault.Span.{Span}
use Rattle.nx_base.specs.declared.name.Name.{Name}
use Rattle.nx_base.specs.declared.token.Token.{Token}
use Rattle.nx_events.specs.Among.{events_among, faults_among}
use Rattle.nx_events.specs.CharacterFaults.{character_faults}
use Rattle.nx_events.specs.Declarations.{declaration_faults}
use Rattle.nx_events.specs.Elements.{element_resolved, element_items}
use Rattle.nx_events.specs.Faults.{faults_as_items}
use Rattle.nx_events.specs.Items.{first_state, is_behind, own_bindings, token_span, items_of_token, state_behind, items_of_text}
use Rattle.nx_events.specs.OpenTags.{is_opening, state_after}
use Rattle.nx_events.specs.Runs.{run_items}
use Rattle.nx_events.specs.SpelledTags.{IsName}
use Rattle.nx_events.specs.Tags.{start_name, tag_attributes}
use Rattle.nx_events.specs.declared.flaw.Resolved.{Resolved}
use Rattle.nx_events.specs.declared.flaw.Resolved.TheVariants.{Named}
use Rattle.nx_events.specs.declared.item.Item.{Item}
use Rattle.nx_events.specs.declared.item.Item.TheVariants as items
use Rattle.nx_events.specs.declared.reading.Reading.TheVariants.{Value}
use Rattle.nx_events.specs.declared.state.EventState.{EventState}
use Rattle.nx_text.specs.Changing.{changed}
use Rattle.nx_tags.specs.Answers.{Renames}

-- ---- places, spans and tokens that move with a text

-- where a change moves a place of its text: one in front of it stays, one behind it goes with what stands there, and one inside of it goes to
-- its start. That is `moved_place` of an edit, but with no greatest place: the law is one of all texts, not of those that a machine holds
abbrev pub moved_by : Change → ℕ → ℕ
moved_by change place =
    if nat_lt place change.from then place
    else (if nat_le change.to place then place - (change.to - change.from) + length change.text else change.from)

-- and where changes do that are made one after another
abbrev pub place_behind : List Change → ℕ → ℕ
place_behind [] place = place
place_behind (change ∷ others) place = place_behind others (moved_by change place)

-- a span, a fault and an item, whose places are moved so
abbrev pub span_by : (ℕ → ℕ) → Span → Span
span_by to span = record { from = to span.from; to = to span.to }

abbrev pub fault_by : (ℕ → ℕ) → Fault → Fault
fault_by to fault = record { span = span_by to fault.span; kind = fault.kind; detail = fault.detail }

abbrev pub item_by : (ℕ → ℕ) → Item → Item
item_by to (items.Event event span) = items.Event event (span_by to span)
item_by to (items.Fault fault) = items.Fault (fault_by to fault)

-- the token of the same kind between the same two places of another text
abbrev pub token_by : (ℕ → ℕ) → List ℕ → Token → Token
token_by to other token = record {
  kind = token.kind;
  from = to token.from;
  bytes = slice_range other (to token.from) (to (end_of token));
}

-- ---- items, in front of the element of a tag and behind it

-- the items of tokens from a state on, without those of the text's end
unfoldable pub items_through : EventState → List Token → List Item
items_through state [] = []
items_through state (token ∷ others) = items_of_token state token ++ items_through (state_behind state token) others

-- what is known in front of a tag behind these tokens
abbrev pub state_before : List Token → EventState
state_before before = state_after first_state before

-- the items in front of the element of a tag behind these tokens: those of the tokens, the run in front of the tag, the faults of its characters
-- and references, and of its declarations
abbrev pub items_before_element : List Token → Token → List Item
items_before_element before tag =
    items_through first_state before
    ++ (run_items tag.from (state_before before).run
    ++ (faults_as_items (character_faults Value tag.from tag.bytes)
    ++ faults_as_items (declaration_faults [] (tag_attributes tag.from tag.bytes))))

-- a written name, as that of the tag's element: with the declarations around it and its own
abbrev pub resolved_in : List Token → Token → List ℕ → Resolved
resolved_in before tag written =
    element_resolved (is_behind (state_before before)) ((state_before before).scope ++ own_bindings tag) written

-- ---- what is given

-- the start tag or empty-element tag at a place has another name behind changes: every token is of the kind that it was, and lies where they
-- move it; and so do the items, but that the element is what the other name says
pub record IsRenamed (text : List ℕ) (at : ℕ) (name : List ℕ) (changes : List Change) : Type 0 where
  pub before : List Token
  pub tag : Token
  pub behind : List Token
  pub split : tokens_of text ≡ before ++ tag ∷ behind
  pub from : tag.from ≡ at
  pub opening : is_opening tag.kind ≡ true
  pub tokens : tokens_of (changed text changes) ≡ map (token_by (place_behind changes) (changed text changes)) (tokens_of text)
  -- the items behind the element
  pub rest : List Item
  pub items_were : items_of_text text ≡ items_before_element before tag
      ++ (element_items (token_span tag) (resolved_in before tag (start_name tag.bytes)) ++ rest)
  pub items_are : items_of_text (changed text changes) ≡ map (item_by (place_behind changes)) (items_before_element before tag)
      ++ (element_items (span_by (place_behind changes) (token_span tag)) (resolved_in before tag name) ++ map (item_by (place_behind changes)) rest)

-- law: that is what the changes of `rename` give
abbrev pub RenamingGives : Type 0
RenamingGives = (text name : List ℕ) (at : ℕ) (changes : List Change) → IsUtf8 text → IsName name → Renames text at name changes →
    IsRenamed text at name changes

-- law: where both names resolve to one, the events are the same, and the faults are those before, moved
abbrev pub RenamingKeepsEvents : Type 0
RenamingKeepsEvents = (text name : List ℕ) (at : ℕ) (changes : List Change) (renamed : IsRenamed text at name changes) (expanded : Name) →
    resolved_in renamed.before renamed.tag (start_name renamed.tag.bytes) ≡ Named expanded →
    resolved_in renamed.before renamed.tag name ≡ Named expanded →
    (events_among (items_of_text (changed text changes)) ≡ events_among (items_of_text text))
    × (faults_among (items_of_text (changed text changes)) ≡ map (fault_by (place_behind changes)) (faults_among (items_of_text text)))
