-- What is found while a text is read up to a place.
use Rattle.std.specs.Prelude.{◌≡◌, ◌≢◌, ◌<◌, ◌≤◌, ◌-◌, ℕ, Bool, true, false, List, [], ◌∷◌, ◌++◌, length, map, take, Option, Some, None}
use Rattle.std.specs.List.{AllByRecursion}
use Rattle.nx_base.specs.Text.{IsPlace}
use Rattle.nx_base.specs.Tokens.{cut, end_of, tokens_from, tokens_of}
use Rattle.nx_base.specs.declared.token.Token.{Token}
use Rattle.nx_base.specs.declared.token.TokenKind.{TokenKind}
use Rattle.nx_base.specs.declared.token.TokenKind.TheVariants as kinds
use Rattle.nx_events.specs.Items.{first_state, items_of_token, state_behind}
use Rattle.nx_events.specs.OpenTags.{Leaves, state_after}
use Rattle.nx_events.specs.Runs.{run_back}
use Rattle.nx_events.specs.declared.state.EventState.{EventState}
use Rattle.nx_scan.specs.Markup.{IsEnded}
use Rattle.nx_tags.specs.declared.front.Front.{Front}
use Rattle.nx_tags.specs.declared.front.Stop.{Stop}
use Rattle.nx_tags.specs.declared.front.Stop.TheVariants.{Border, Inside}
use Rattle.nx_tags.specs.Free.{IsFree, IsCutWell}
use Rattle.nx_tags.specs.Parts.{front_half, ending_by, in_front, state_at}

-- ---- up to a border

-- a border, and what is known of the tokens in front of it
pub record IsRead (text : List ℕ) (place : ℕ) (state : EventState) : Type 0 where
  pub border : IsPlace text place
  pub split : tokens_of text ≡ ending_by place (tokens_of text) ++ tokens_from text place
  pub state_is : state ≡ state_after first_state (ending_by place (tokens_of text))
  pub back : run_back state.run ≤ place

-- a token of the text
pub record IsCutIn (text : List ℕ) (token : Token) : Type 0 where
  pub place : IsPlace text token.from
  pub within : token.from < length text
  pub is : token ≡ cut text token.from

-- the innermost of the start tags that are open behind these tokens begin at these byte offsets; all of them, where reading began at 0
pub record IsOpen (text : List ℕ) (first : ℕ) (all : List Token) (starts : List ℕ) : Type 0 where
  pub around : List Token
  pub known : List Token
  pub run : List Token
  pub leaves : Leaves all (around ++ known) run
  pub starts_are : starts ≡ map (λ (tag : Token). tag.from) known
  pub cuts : AllByRecursion (IsCutIn text) known
  pub whole : first ≡ 0 → around ≡ []

-- the same behind a token, where so many elements were open in front of it and are behind it
abbrev pub starts_by_kind : TokenKind → ℕ → ℕ → ℕ → List ℕ → List ℕ
starts_by_kind kinds.Start from outer left starts = starts ++ from ∷ []
starts_by_kind kinds.End from outer left starts = take (left - (outer - length starts)) starts
starts_by_kind _ from outer left starts = starts

-- no token that ends at the place is one without an end of its own
abbrev pub EndsWell : ℕ → List Token → Type 0
EndsWell at tokens = AllByRecursion (λ (token : Token). end_of token ≡ at → IsEnded token.kind) tokens

abbrev pub IfEnded : List ℕ → ℕ → Bool → Type 0
IfEnded text at true = EndsWell at (tokens_of text)
IfEnded text at false = ¬ EndsWell at (tokens_of text)

-- a token that the place cuts, where what is known in front of it is this
pub record IsStoppedInside (text : List ℕ) (first at : ℕ) (front : Front) (token : Token) : Type 0 where
  pub place : ℕ
  pub read : IsRead text place front.state
  pub opened : IsOpen text first (ending_by place (tokens_of text)) front.starts.items
  pub within : place < length text
  pub is : token ≡ cut text place
  pub before : place < at
  pub behind : at < end_of token

-- where reading towards a place stops: there, or at the token that the place cuts
abbrev pub StopsAt : List ℕ → ℕ → ℕ → Front → Stop → Type 0
StopsAt text first at front (Border ended) =
    IsRead text at front.state × IsOpen text first (ending_by at (tokens_of text)) front.starts.items × IfEnded text at ended
StopsAt text first at front (Inside token) = IsStoppedInside text first at front token

-- ---- inside of a Text token

-- an element is open in front of the token, and the place cuts it well
abbrev pub IsCutWellInside : EventState → ℕ → Token → Type 0
IsCutWellInside state at token = (0 < length state.elements) × IsCutWell (state_behind state (front_half at token)) at token

-- what is known behind a token that gives nothing, and none exactly where it gives something
abbrev pub FoundQuiet : EventState → Token → Option EventState → Type 0
FoundQuiet state token None = items_of_token state token ≢ []
FoundQuiet state token (Some behind) = (items_of_token state token ≡ []) × (behind ≡ state_behind state token)

-- neither the token nor its two parts give anything, and both ways lead to one state
pub record AreQuiet (state : EventState) (token front back : Token) : Type 0 where
  pub quiet : items_of_token state token ≡ []
  pub quiet_front : items_of_token state front ≡ []
  pub quiet_back : items_of_token (state_behind state front) back ≡ []
  pub same : state_behind state token ≡ state_behind (state_behind state front) back

abbrev pub FoundBetween : EventState → Token → Token → Token → Option EventState → Type 0
FoundBetween state token front back None = ¬ AreQuiet state token front back
FoundBetween state token front back (Some between) = AreQuiet state token front back × (between ≡ state_behind state front)

-- what is known in front of the place then, and none exactly where it isn't so
abbrev pub FoundInside : EventState → ℕ → Token → Option EventState → Type 0
FoundInside state at token None = ¬ IsCutWellInside state at token
FoundInside state at token (Some between) = IsCutWellInside state at token × (between ≡ state_behind state (front_half at token))

-- ---- a free place

-- what is known in front of a free place, and none exactly where it isn't free
abbrev pub FoundFree : List ℕ → ℕ → ℕ → Option Front → Type 0
FoundFree text first at None = ¬ IsFree text at
FoundFree text first at (Some front) =
    IsFree text at × (front.state ≡ state_at text at) × IsOpen text first (in_front text at) front.starts.items

-- the start tag of the innermost open element in front of a place
pub record IsInnermostTag (text : List ℕ) (at : ℕ) (tag : Token) : Type 0 where
  pub outer : List Token
  pub run : List Token
  pub leaves : Leaves (in_front text at) (outer ++ tag ∷ []) run
  pub cut_in : IsCutIn text tag
