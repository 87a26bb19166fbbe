-- How texts that have no fault in front of a place can be completed there.
use Rattle.std.specs.Prelude.{◌≡◌, ℕ, ◌⊎◌, List, [], ◌∷◌, ◌++◌, take, map, Some, IsUtf8, Contains}
use Rattle.nx_base.specs.Rules.{lexeme_of}
use Rattle.nx_base.specs.Running.{after_all, faults_along}
use Rattle.nx_base.specs.Text.{IsPlace}
use Rattle.nx_base.specs.Tokens.{tokens_of}
use Rattle.nx_base.specs.Trees as trees
use Rattle.nx_base.specs.declared.name.Name.{Name}
use Rattle.nx_base.specs.declared.offer.Offer.{Offer}
use Rattle.nx_base.specs.declared.token.Token.{Token}
use Rattle.nx_base.specs.declared.token.TokenKind.TheVariants as kinds
use Rattle.rng_core.specs.Patterns.{Language}
use Rattle.rng_core.specs.Validity.{IsRest}
use Rattle.rng_kept.specs.Events.{IsDistinct}
use Rattle.rng_kept.specs.Live.{IsLive}
use Rattle.rng_kept.specs.Residuals.{Residual, Takes}
use Rattle.nx_events.specs.Among.{events_among}
use Rattle.nx_events.specs.Items.{first_state, items_of_token}
use Rattle.nx_events.specs.OpenTags.{state_after}
use Rattle.nx_events.specs.Prefixes.{IsElementName, IsEndName}
use Rattle.nx_events.specs.declared.item.Event.TheVariants.{Enter}
use Rattle.nx_recover.specs.Completing.{IsErrorFree, Completes, Closes}
use Rattle.nx_recover.specs.Faults.{AreFaultsOf}
use Rattle.nx_recover.specs.Items.{form_along}
use Rattle.nx_recover.specs.Offers.{UpTo, items_before, bytes_before}
use Rattle.nx_recover.specs.RecoverRules.{Recovered, recover_rules, first_levels}
use Rattle.nx_fill.specs.Fillable.{IsFillable, FillOf}
use Rattle.nx_fill.specs.Filling.{IsFilling}
use Rattle.nx_fill.specs.declared.filled.Filled.{Filled}

-- ---- another text

-- another text that is the same up to there has this tag there, behind these tokens
pub record HasTag (text other : List ℕ) (at : ℕ) (front : List Token) (tag : Token) : Type 0 where
  pub back : List Token
  pub tokens : tokens_of other ≡ front ++ tag ∷ back
  pub from : tag.from ≡ at
  pub same : take at other ≡ take at text

-- a start tag or an empty-element tag of an element of this name
pub record EntersAs (front : List Token) (tag : Token) (name : Name) : Type 0 where
  pub kind : (tag.kind ≡ kinds.Start) ⊎ (tag.kind ≡ kinds.Empty)
  pub enters : Contains (events_among (items_of_token (state_after first_state front) tag)) (Enter name)

-- where an element's name or an end tag is being written, behind events without a fault: what a tag of another text begins or ends there, which
-- has no fault at all, may begin or end there
abbrev pub LaterTextsComplete : Type 0
LaterTextsComplete = (g : Language) → IsLive g → (text : List ℕ) → IsUtf8 text → (at : ℕ) → IsPlace text at → (p : UpTo text at) →
    IsElementName (bytes_before p) ⊎ IsEndName (bytes_before p) → (k : List trees.Event) → IsErrorFree g (items_before p) k →
    (other : List ℕ) → IsUtf8 other → AreFaultsOf (Some g) other [] → (front : List Token) (tag : Token) → HasTag text other p.token.from front tag →
    ((name : Name) → EntersAs front tag name → Completes g k name) × (tag.kind ≡ kinds.End → Closes g k)

-- ---- rests

-- what is left behind these events stands for all that completes them: events that can be written do so exactly where they are taken, and their
-- attributes have none of these names, those of the tag that is open
pub record StandsForRests (g : Language) (k : List trees.Event) (x : Residual) : Type 0 where
  pub names : List Name
  pub complete : (s : List trees.Event) → trees.AreWritable s → Takes g.definitions x s → IsDistinct names s → IsRest g.definitions g.start k s
  pub all : (s : List trees.Event) → IsRest g.definitions g.start k s → Takes g.definitions x s × IsDistinct names s

-- behind events without a fault something is left in front of a place, which stands for all that completes them
pub record LeavesRests (g : Language) {text : List ℕ} {at : ℕ} (p : UpTo text at) (k : List trees.Event) : Type 0 where
  pub residual : Residual
  pub is : (form_along g (first_levels (Some g)) (items_before p)).here ≡ Some residual
  pub stands : StandsForRests g k residual

abbrev pub RestsComplete : Type 0
RestsComplete = (g : Language) → IsLive g → (text : List ℕ) → IsUtf8 text → (at : ℕ) → (p : UpTo text at) →
    (k : List trees.Event) → IsErrorFree g (items_before p) k → LeavesRests g p k

-- ---- what is filled

-- what the rules mean behind tokens
abbrev pub meant_behind : Language → List Token → Recovered
meant_behind g front = after_all (recover_rules (Some g)) (recover_rules (Some g)).first (map lexeme_of front)

-- where the tokens in front have no fault, what is filled by what is left there is what may be filled in
abbrev pub FillingsFill : Type 0
FillingsFill = (g : Language) → IsFillable g → (text : List ℕ) → IsUtf8 text → (at : ℕ) → IsPlace text at → (p : UpTo text at) →
    faults_along (recover_rules (Some g)) 0 (recover_rules (Some g)).first (map lexeme_of p.front) ≡ [] → (o : Offer) (a : Filled) →
    IsFilling g (meant_behind g p.front).levels (meant_behind g p.front).events (bytes_before p) o a → FillOf (Some g) text at o a
