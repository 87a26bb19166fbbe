-- The runs of a text and the ends that an end tag brings, told by the tokens and their places.
use Rattle.std.specs.Prelude.{◌≡◌, ℕ, ◌==◌, if◌then◌else◌, List, [], ◌∷◌, ◌++◌, length, reverse}
use Rattle.std.specs.List.{AllByRecursion, flat_map}
use Rattle.nx_base.specs.Tokens.{AreTokensOf, end_of}
use Rattle.nx_base.specs.declared.fault.Kind.TheVariants as faults
use Rattle.nx_base.specs.declared.fault.Span.{Span}
use Rattle.nx_base.specs.declared.token.Token.{Token}
use Rattle.nx_base.specs.declared.token.TokenKind.TheVariants as kinds
use Rattle.nx_events.specs.Tags.{start_name, end_name}
use Rattle.nx_events.specs.Runs.{run_items}
use Rattle.nx_events.specs.Items.{token_span, first_state, items_of_token, items_of}
use Rattle.nx_events.specs.OpenTags.{state_after, NoneNamed, Leaves, string_in, last_of}
use Rattle.nx_events.specs.declared.item.Event.TheVariants.{Chars, Leave}
use Rattle.nx_events.specs.declared.item.Item.{Item}
use Rattle.nx_events.specs.declared.item.Item.TheVariants as items

-- from the first of these tokens through the last
abbrev pub span_over : Token → List Token → Span
span_over first others = record { from = first.from; to = end_of (last_of first others) }

-- what a run of these tokens of character data gives: their strings joined, with the span from the first one's start to the
-- last one's end, and nothing where the string is empty
abbrev pub chars_of : List Token → List Item
chars_of [] = []
chars_of (first ∷ others) =
    if length (flat_map string_in (first ∷ others)) == 0 then []
    else items.Event (Chars (flat_map string_in (first ∷ others))) (span_over first others) ∷ []

-- the run that is pending behind tokens gives what the tokens in it give
abbrev pub RunsGiveTheirChars : Type 0
RunsGiveTheirChars = (all tags run : List Token) (at : ℕ) → AreTokensOf at all → Leaves all tags run →
    run_items at (state_after first_state all).run ≡ chars_of run

-- this string with this span is of a run that some tokens at the front of these leave
pub record IsOfRun (all : List Token) (string : List ℕ) (span : Span) : Type 0 where
  pub front : List Token
  pub behind : List Token
  pub tags : List Token
  pub first : Token
  pub others : List Token
  pub split : all ≡ front ++ behind
  pub leaves : Leaves front tags (first ∷ others)
  pub joined : string ≡ flat_map string_in (first ∷ others)
  pub spanned : span ≡ span_over first others

abbrev pub ComesFromRun : List Token → Item → Type 0
ComesFromRun all (items.Event (Chars string) span) = IsOfRun all string span
ComesFromRun all _ = Unit {0}

-- each Chars among the items of a text is that of such a run
abbrev pub CharsComeFromRuns : Type 0
CharsComeFromRuns = (all : List Token) (len : ℕ) → AreTokensOf len all → AllByRecursion (ComesFromRun all) (items_of all len)

-- what an end tag gives for a start tag that is left open inside of the element that it ends
abbrev pub left_open : Token → Token → List Item
left_open end_tag tag =
    items.Fault
    (record { span = token_span end_tag; kind = faults.MissingEnd; detail = start_name tag.bytes }) ∷ items.Event Leave
    (token_span end_tag) ∷ []

-- an end tag that names an open start tag gives the run, the MissingEnd of each start tag inside of that one, the innermost first,
-- and its own Leave
abbrev pub EndTagsEndInnermostFirst : Type 0
EndTagsEndInnermostFirst = (front tags inner run : List Token) (closed end_tag : Token) → AreTokensOf end_tag.from front →
    Leaves front (tags ++ closed ∷ inner) run → end_tag.kind ≡ kinds.End → start_name closed.bytes ≡ end_name end_tag.bytes
    → NoneNamed inner end_tag →
    items_of_token (state_after first_state front) end_tag
    ≡ chars_of run ++ flat_map (left_open end_tag) (reverse inner) ++ items.Event Leave (token_span end_tag) ∷ []
