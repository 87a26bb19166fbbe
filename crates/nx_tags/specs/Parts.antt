-- The tokens at both sides of a place.
use Rattle.std.specs.Prelude.{◌≡◌, ℕ, ◌-◌, Bool, false, ◌&&◌, nat_lt, nat_le, if◌then◌else◌, List, [], ◌∷◌, take, drop}
use Rattle.std.specs.List.{AllByRecursion, filter, flat_map}
use Rattle.nx_base.specs.Text.{IsPlace}
use Rattle.nx_base.specs.Tokens.{end_of, tokens_of}
use Rattle.nx_base.specs.declared.token.Token.{Token}
use Rattle.nx_events.specs.Items.{first_state}
use Rattle.nx_events.specs.OpenTags.{state_after}
use Rattle.nx_events.specs.declared.state.EventState.{EventState}

-- the place lies inside of the token
abbrev pub cuts : ℕ → Token → Bool
cuts at token = nat_lt token.from at && nat_lt at (end_of token)

-- what of the token stands in front of the place, and what stands behind it
abbrev pub front_half : ℕ → Token → Token
front_half at token = record { kind = token.kind; from = token.from; bytes = take (at - token.from) token.bytes }

abbrev pub back_half : ℕ → Token → Token
back_half at token = record { kind = token.kind; from = at; bytes = drop (at - token.from) token.bytes }

-- the tokens, with the one that the place cuts in two
abbrev pub halves : ℕ → Token → List Token
halves at token = if cuts at token then front_half at token ∷ back_half at token ∷ [] else token ∷ []

abbrev pub cut_at : ℕ → List Token → List Token
cut_at at tokens = flat_map (halves at) tokens

-- those that end at the place or before, and those that begin there or behind
abbrev pub ending_by : ℕ → List Token → List Token
ending_by at tokens = filter (λ (token : Token). nat_le (end_of token) at) tokens

abbrev pub beginning_at : ℕ → List Token → List Token
beginning_at at tokens = filter (λ (token : Token). nat_le at token.from) tokens

abbrev pub in_front : List ℕ → ℕ → List Token
in_front text at = ending_by at (cut_at at (tokens_of text))

abbrev pub beyond : List ℕ → ℕ → List Token
beyond text at = beginning_at at (cut_at at (tokens_of text))

-- what is known of the text in front of the place. Where it cuts a tag, the front half would count as a tag, but no such place is free.
abbrev pub state_at : List ℕ → ℕ → EventState
state_at text at = state_after first_state (in_front text at)

-- a place of the text that cuts no token: where one begins or ends
pub record IsTokenBorder (text : List ℕ) (at : ℕ) : Type 0 where
  pub place : IsPlace text at
  pub uncut : AllByRecursion (λ (token : Token). cuts at token ≡ false) (tokens_of text)

-- such a border, with what is known of the text in front of it
pub record IsKnownAt (text : List ℕ) (at : ℕ) (state : EventState) : Type 0 where
  pub border : IsTokenBorder text at
  pub known : state ≡ state_at text at
