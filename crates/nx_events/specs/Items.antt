-- The events and faults of a list of tokens: a fold over the tokens, with plain lists for the open elements and the scope.
use Rattle.std.specs.Prelude.{ℕ, suc, ◌+◌, Bool, true, false, not, ◌&&◌, ◌||◌, nat_lt, if◌then◌else◌, List, [], ◌∷◌, ◌++◌, length, take}
use Rattle.std.specs.Prelude.{drop, reverse, Option, Some, None}
use Rattle.std.specs.List.{flat_map, list_all}
use Rattle.std.specs.Str.{bytes_eq}
use Rattle.nx_base.specs.Tokens.{tokens_of}
use Rattle.nx_base.specs.declared.fault.Span.{Span}
use Rattle.nx_base.specs.declared.fault.Kind.{Kind}
use Rattle.nx_base.specs.declared.fault.Kind.TheVariants as kinds
use Rattle.nx_base.specs.declared.token.Token.{Token}
use Rattle.nx_base.specs.declared.token.TokenKind.{TokenKind}
use Rattle.nx_base.specs.declared.token.TokenKind.TheVariants as tokens
use Rattle.nx_events.specs.declared.reading.Reading.{Reading}
use Rattle.nx_events.specs.declared.reading.Reading.TheVariants.{Plain, Text, Value}
use Rattle.nx_base.specs.Characters.{is_space}
use Rattle.nx_events.specs.Strings.{string_of, cdata_content}
use Rattle.nx_events.specs.Faults.{bare_fault, faults_as_items}
use Rattle.nx_events.specs.CharacterFaults.{character_faults}
use Rattle.nx_events.specs.Markup.{is_bad_comment, is_bad_pi}
use Rattle.nx_events.specs.XmlDeclaration.{is_xml_declaration}
use Rattle.nx_events.specs.Tags.{start_name, end_name, tag_attributes}
pub use Rattle.nx_events.specs.Choices.{one_more}
use Rattle.nx_events.specs.Choices.{or_else}
use Rattle.nx_events.specs.Declarations.{declaration_faults, bindings}
use Rattle.nx_events.specs.Elements.{element_resolved, element_items, attribute_items}
use Rattle.nx_events.specs.Runs.{run_passed, run_joined, run_items}
use Rattle.nx_events.specs.declared.scope.Binding.{Binding}
use Rattle.nx_events.specs.declared.state.EventState.{EventState}
use Rattle.nx_events.specs.declared.state.OpenElement.{OpenElement}
use Rattle.nx_events.specs.declared.item.Item.{Item}
use Rattle.nx_events.specs.declared.item.Item.TheVariants as items
use Rattle.nx_events.specs.declared.item.Event.TheVariants.{TagEnd, Leave}

abbrev pub token_span : Token → Span
token_span token = record { from = token.from; to = token.from + length token.bytes }

-- one fault over the whole token where the test holds
abbrev pub token_fault_if : Bool → Kind → Token → List Item
token_fault_if test kind token = if test then items.Fault (bare_fault kind (token_span token)) ∷ [] else []

-- the stages: before the root, inside of it, and behind it
abbrev pub is_inside : EventState → Bool
is_inside state = nat_lt 0 (length state.elements)

abbrev pub is_before : EventState → Bool
is_before state = not state.started

abbrev pub is_behind : EventState → Bool
is_behind state = state.started && not (is_inside state)

-- nothing read
abbrev pub first_state : EventState
first_state = record { elements = []; scope = []; came = false; doctype = false; started = false; run = None }

-- XML 1.0, 2.8: a declaration stands first, and a document type before the root, once
unfoldable pub declaration_items : EventState → Token → List Item
declaration_items state token =
    if state.came then items.Fault (bare_fault kinds.Misplaced (token_span token)) ∷ []
    else token_fault_if (not (is_xml_declaration token.bytes)) kinds.BadDecl token

unfoldable pub doctype_items : EventState → Token → List Item
doctype_items state token = token_fault_if (state.started || state.doctype) kinds.Misplaced token

-- the faults of a token's characters, and one over the whole token where the test holds
abbrev pub character_items : Reading → Bool → Kind → Token → List Item
character_items reading test kind token =
    faults_as_items (character_faults reading token.from token.bytes) ++ token_fault_if test kind token

unfoldable pub comment_items : Token → List Item
comment_items token = character_items Plain (is_bad_comment token.bytes) kinds.BadComment token

unfoldable pub pi_items : Token → List Item
pi_items token = character_items Plain (is_bad_pi token.bytes) kinds.BadPi token

-- XML 1.0, 2.1: character data stands inside of the root
unfoldable pub cdata_items : EventState → Token → List Item
cdata_items state token = character_items Plain (not (is_inside state)) kinds.TextOutside token

unfoldable pub text_items : EventState → Token → List Item
text_items state token =
    character_items Text (not (is_inside state) && not (list_all is_space token.bytes)) kinds.TextOutside token

-- the declarations that are in force in a tag: those around it, and its own
abbrev pub own_bindings : Token → List Binding
own_bindings token = bindings [] (tag_attributes token.from token.bytes)

-- what a token declares for those behind it: a start tag its own declarations, any other nothing
abbrev pub declared_by_kind : TokenKind → Token → List Binding
declared_by_kind tokens.Start token = own_bindings token
declared_by_kind _ token = []

abbrev pub declared_in : Token → List Binding
declared_in token = declared_by_kind token.kind token

-- a start tag: the run before it, its characters and references, its declarations, its element, its other attributes, its end
unfoldable pub start_items : EventState → Token → List Item
start_items state token =
    let attributes = tag_attributes token.from token.bytes in
    let scope = state.scope ++ own_bindings token in
    run_items token.from state.run
    ++ faults_as_items (character_faults Value token.from token.bytes)
    ++ faults_as_items (declaration_faults [] attributes)
    ++ element_items (token_span token) (element_resolved (is_behind state) scope (start_name token.bytes))
    ++ attribute_items scope [] attributes
    ++ items.Event TagEnd (token_span token) ∷ []

-- an empty-element tag: the same, and its element's end
unfoldable pub empty_items : EventState → Token → List Item
empty_items state token = start_items state token ++ items.Event Leave (token_span token) ∷ []

-- how many elements stand around the innermost open one with this written name
unfoldable pub around_innermost : List ℕ → List OpenElement → Option ℕ
around_innermost name [] = None
around_innermost name (element ∷ inner) =
    or_else (one_more (around_innermost name inner)) (if bytes_eq element.written name then Some 0 else None)

-- an element that has no end tag of its own ends here
abbrev pub left_out : Kind → Span → OpenElement → List Item
left_out kind span element =
    items.Fault (record { span = span; kind = kind; detail = element.written }) ∷ items.Event Leave span ∷ []

-- an end tag that names no open element
abbrev pub extra_end_items : Token → List Item
extra_end_items token = items.Fault (record { span = token_span token; kind = kinds.ExtraEnd; detail = end_name token.bytes }) ∷ []

-- an end tag for the element behind n others: the run, the elements inside of it, innermost first, and its own end (XML 1.0, 3,
-- Element Type Match)
abbrev pub closing_items : EventState → Token → Option ℕ → List Item
closing_items state token None = extra_end_items token
closing_items state token (Some n) =
    run_items token.from state.run
    ++ flat_map (left_out kinds.MissingEnd (token_span token)) (reverse (drop (suc n) state.elements))
    ++ items.Event Leave (token_span token) ∷ []

unfoldable pub end_items : EventState → Token → List Item
end_items state token = closing_items state token (around_innermost (end_name token.bytes) state.elements)

-- the items of a token of this kind: Bad and Unclosed, which are the project's own, have one fault
abbrev pub items_by_kind : TokenKind → EventState → Token → List Item
items_by_kind tokens.Bom state token = []
items_by_kind tokens.Decl state token = declaration_items state token
items_by_kind tokens.Doctype state token = doctype_items state token
items_by_kind tokens.Comment state token = comment_items token
items_by_kind tokens.Pi state token = pi_items token
items_by_kind tokens.Cdata state token = cdata_items state token
items_by_kind tokens.Text state token = text_items state token
items_by_kind tokens.Bad state token = token_fault_if true kinds.BadMarkup token
items_by_kind tokens.Unclosed state token = token_fault_if true kinds.Unclosed token
items_by_kind tokens.Start state token = start_items state token
items_by_kind tokens.Empty state token = empty_items state token
items_by_kind tokens.End state token = end_items state token

unfoldable pub items_of_token : EventState → Token → List Item
items_of_token state token = items_by_kind token.kind state token

-- a token that isn't a tag, character data or a byte order mark
abbrev pub IsOther : TokenKind → Type 0
IsOther tokens.Bom = ⊥
IsOther tokens.Text = ⊥
IsOther tokens.Cdata = ⊥
IsOther tokens.Start = ⊥
IsOther tokens.Empty = ⊥
IsOther tokens.End = ⊥
IsOther _ = Unit {0}

-- the state behind a token that neither opens, closes nor adds to a run
abbrev pub passed : EventState → Token → EventState
passed state token = record state { came = true; run = run_passed (length token.bytes) state.run }

-- a document type declaration
abbrev pub is_doctype : TokenKind → Bool
is_doctype tokens.Doctype = true
is_doctype _ = false

-- the same, where a document type declaration is remembered
abbrev pub passed_other : EventState → Token → EventState
passed_other state token = record (passed state token) { doctype = state.doctype || is_doctype token.kind }

-- the same, where a byte order mark isn't remembered
abbrev pub unmarked : EventState → Token → EventState
unmarked state token = record state { run = run_passed (length token.bytes) state.run }

-- the state behind character data with this string, which counts inside of the root
abbrev pub joined : EventState → Token → List ℕ → EventState
joined state token string =
    if is_inside state then record state { came = true; run = run_joined string (length token.bytes) state.run }
    else passed state token

-- the state behind a start tag, and behind an empty-element tag
abbrev pub opened : EventState → Token → EventState
opened state token = record state {
  elements = state.elements ++ (record { written = start_name token.bytes; outer = length state.scope }) ∷ [];
  scope = state.scope ++ own_bindings token;
  came = true;
  started = true;
  run = None;
}

abbrev pub emptied : EventState → EventState
emptied state = record state { came = true; started = true; run = None }

-- how many pairs are declared around the first of these elements
abbrev pub outer_of_first : List OpenElement → ℕ
outer_of_first [] = 0
outer_of_first (element ∷ inner) = element.outer

-- the state behind the end of the element behind n others
abbrev pub element_ended : EventState → ℕ → EventState
element_ended state n = record state {
  elements = take n state.elements;
  scope = take (outer_of_first (drop n state.elements)) state.scope;
  came = true;
  run = None;
}

-- the state behind an end tag for the element behind n others
abbrev pub closed : EventState → Token → Option ℕ → EventState
closed state token None = passed state token
closed state token (Some n) = element_ended state n

-- the state behind a token
abbrev pub state_by_kind : TokenKind → EventState → Token → EventState
state_by_kind tokens.Bom state token = unmarked state token
state_by_kind tokens.Cdata state token = joined state token (string_of Plain (cdata_content token.bytes))
state_by_kind tokens.Text state token = joined state token (string_of Text token.bytes)
state_by_kind tokens.Start state token = opened state token
state_by_kind tokens.Empty state token = emptied state
state_by_kind tokens.End state token = closed state token (around_innermost (end_name token.bytes) state.elements)
state_by_kind _ state token = passed_other state token

unfoldable pub state_behind : EventState → Token → EventState
state_behind state token = state_by_kind token.kind state token

-- the items of the end of a text of this length, all at that place: the run, the end of each open element, innermost
-- first, and that there is no root, where none came (XML 1.0, 2.1 [1])
unfoldable pub items_at_end : EventState → ℕ → List Item
items_at_end state len =
    let span : Span = record { from = len; to = len } in
    run_items len state.run
    ++ flat_map (left_out kinds.UnclosedElement span) (reverse state.elements)
    ++ (if is_before state then items.Fault (bare_fault kinds.NoRoot span) ∷ [] else [])

-- the items of tokens from a state on, up to the end of a text of this length
unfoldable pub items_from : EventState → List Token → ℕ → List Item
items_from state [] len = items_at_end state len
items_from state (token ∷ others) len =
    items_of_token state token ++ items_from (state_behind state token) others len

-- those of tokens that others follow
abbrev pub items_through : EventState → List Token → List Item
items_through state [] = []
items_through state (token ∷ others) = items_of_token state token ++ items_through (state_behind state token) others

-- the items of all tokens of a text of this length
abbrev pub items_of : List Token → ℕ → List Item
items_of all len = items_from first_state all len

-- the events and faults of a whole text, which is cut into tokens
abbrev pub items_of_text : List ℕ → List Item
items_of_text text = items_of (tokens_of text) (length text)
