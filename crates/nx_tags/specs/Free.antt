-- The places at which tags can be put in, so that every token stays or is cut into two that say the same.
use Rattle.std.specs.Prelude.{◌≡◌, ℕ, ◌<◌, true, List, [], ◌++◌, length}
use Rattle.std.specs.List.{AllByRecursion}
use Rattle.nx_base.specs.Tokens.{end_of, tokens_of}
use Rattle.nx_base.specs.declared.token.Token.{Token}
use Rattle.nx_base.specs.declared.token.TokenKind.TheVariants as kinds
use Rattle.nx_events.specs.Among.{faults_among}
use Rattle.nx_events.specs.Items.{items_of_token}
use Rattle.nx_events.specs.OpenTags.{string_in}
use Rattle.nx_events.specs.declared.state.EventState.{EventState}
use Rattle.nx_scan.specs.Markup.{IsEnded}
use Rattle.nx_tags.specs.Parts.{cuts, front_half, back_half, state_at}

abbrev pub HasNoFault : EventState → Token → Type 0
HasNoFault state token = faults_among (items_of_token state token) ≡ []

-- a Text token without a fault, whose two halves have none either, and whose string is theirs joined. Of the state it matters alone that an
-- element is open, so one state serves for all three.
pub record IsCutWell (state : EventState) (at : ℕ) (token : Token) : Type 0 where
  pub kind : token.kind ≡ kinds.Text
  pub whole : HasNoFault state token
  pub front : HasNoFault state (front_half at token)
  pub back : HasNoFault state (back_half at token)
  pub string : string_in token ≡ string_in (front_half at token) ++ string_in (back_half at token)

-- an element is open at the place, the token that ends there is neither Bad nor Unclosed, and if a token is cut by it, that is cut well
pub record IsFree (text : List ℕ) (at : ℕ) : Type 0 where
  pub opened : 0 < length (state_at text at).elements
  pub ended : AllByRecursion (λ (token : Token). end_of token ≡ at → IsEnded token.kind) (tokens_of text)
  pub cut_well : AllByRecursion (λ (token : Token). cuts at token ≡ true → IsCutWell (state_at text at) at token) (tokens_of text)
