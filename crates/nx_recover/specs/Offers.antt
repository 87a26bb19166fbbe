-- The offers of a place of a text: what may stand there, by the levels in front of it. Project's own; the manual of nXML mode, Completion.
use Rattle.std.specs.Prelude.{◌≡◌, ℕ, ◌-◌, ◌<◌, ◌≤◌, List, [], ◌∷◌, ◌++◌, take, Option, Some, None}
use Rattle.nx_base.specs.Tokens.{tokens_of, end_of}
use Rattle.nx_base.specs.declared.offer.Offer.{Offer}
use Rattle.nx_base.specs.declared.offer.Offers.{Offers}
use Rattle.nx_base.specs.declared.offer.Offers.TheVariants as answers
use Rattle.nx_base.specs.declared.token.Token.{Token}
use Rattle.rng_core.specs.Patterns.{Language}
use Rattle.nx_events.specs.Items.{first_state}
use Rattle.nx_events.specs.OpenTags.{state_after}
use Rattle.nx_events.specs.Prefixes.{IsPrefix}
use Rattle.nx_events.specs.Runs.{run_items}
use Rattle.nx_events.specs.declared.item.Item.{Item}
use Rattle.nx_events.specs.declared.prefix.TagPrefix.{TagPrefix}
use Rattle.nx_events.specs.declared.prefix.TagPrefix.TheVariants.{ElementName, EndName, AttributeName, AttributeValue, Elsewhere}
use Rattle.nx_events.specs.declared.state.EventState.{EventState}
use Rattle.nx_recover.specs.Behind.{LevelsBehind, items_through}
use Rattle.nx_recover.specs.Frames.{Frame, document_frame}
use Rattle.nx_recover.specs.Offered.{AreOffers, ElementOffered, EndOffered, AttributeOffered, ValueOffered, attributes_among}
use Rattle.nx_recover.specs.declared.levels.Open.{Open}

-- ---- what stands in front of a place

-- the token that holds the byte in front of the place, and the tokens in front of that one
pub record UpTo (text : List ℕ) (at : ℕ) : Type 0 where
  pub front : List Token
  pub token : Token
  pub rest : List Token
  pub tokens : tokens_of text ≡ front ++ token ∷ rest
  pub begun : token.from < at
  pub inside : at ≤ end_of token

-- the state of the items behind the tokens in front
abbrev pub state_before : {text : List ℕ} {at : ℕ} → UpTo text at → EventState
state_before p = state_after first_state p.front

-- the items of these tokens, and the run that is pending behind them
abbrev pub items_before : {text : List ℕ} {at : ℕ} → UpTo text at → List Item
items_before p = items_through first_state p.front ++ run_items p.token.from (state_before p).run

-- the bytes of the token in front of the place
abbrev pub bytes_before : {text : List ℕ} {at : ℕ} → UpTo text at → List ℕ
bytes_before {at = at} p = take (at - p.token.from) p.token.bytes

-- ---- answers

-- nothing is said where no frame goes on; otherwise it is what is offered in the frame
abbrev pub Answers : (Frame → Offer → Type 0) → Option Frame → Offers → Type 0
Answers offered None answers.Nowhere = Unit {0}
Answers offered None (answers.List offers) = ⊥
Answers offered (Some f) answers.Nowhere = ⊥
Answers offered (Some f) (answers.List offers) = AreOffers (offered f) offers

-- behind these items, by the open elements and the frame there
pub record AnswersBehind (g : Language) (all : List Item) (offered : List (Open Frame) → Frame → Offer → Type 0)
    (answer : Offers) : Type 0 where
  pub here : Option Frame
  pub elements : List (Open Frame)
  pub behind : LevelsBehind g (Some (document_frame g)) [] all here elements
  pub answers : Answers (offered elements) here answer

-- in a lost element nothing is said of its own attributes, nor of those of an element in it
abbrev pub inside : Option Frame → Option Frame → Option Frame
inside None own = None
inside (Some f) own = own

-- behind these items and those of a tag
pub record AnswersInTag (g : Language) (all own : List Item) (offered : Frame → Offer → Type 0) (answer : Offers) : Type 0 where
  pub here : Option Frame
  pub elements : List (Open Frame)
  pub behind : LevelsBehind g (Some (document_frame g)) [] all here elements
  pub last : Option Frame
  pub around : List (Open Frame)
  pub in_tag : LevelsBehind g here elements own last around
  pub answers : Answers offered (inside here last) answer

-- by what is being written behind these items
abbrev pub OffersIn : Language → List Item → TagPrefix → Offers → Type 0
OffersIn g all ElementName answer = AnswersBehind g all (λ elements f. ElementOffered g f) answer
OffersIn g all (EndName written) answer = AnswersBehind g all (EndOffered g written) answer
OffersIn g all (AttributeName own) answer = AnswersInTag g all own (AttributeOffered g (attributes_among own)) answer
OffersIn g all (AttributeValue own name) answer = AnswersInTag g all own (ValueOffered g name) answer
OffersIn g all Elsewhere answer = answer ≡ answers.Nowhere

-- ---- the offers of a place

-- at the start of a text, and without a schema, nothing is said
pub data OffersOf (schema : Option Language) (text : List ℕ) (at : ℕ) : Offers → Type 0 where
  at_start : at ≡ 0 → OffersOf schema text at answers.Nowhere
  without_schema : schema ≡ None → OffersOf schema text at answers.Nowhere
  by_prefix : {answer : Offers} (g : Language) → schema ≡ Some g → (p : UpTo text at) → (prefix : TagPrefix)
      → IsPrefix (state_before p) (bytes_before p) prefix → OffersIn g (items_before p) prefix answer → OffersOf schema text at answer
