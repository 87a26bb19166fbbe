-- Items, where the text in front of them changes its length.
use Rattle.std.specs.Prelude.{◌≡◌, ℕ, ◌+◌, ◌≤◌, map}
use Rattle.nx_base.specs.Shifting.{placed_span, placed_fault}
use Rattle.nx_base.specs.declared.token.Token.{Token}
use Rattle.nx_events.specs.Runs.{run_back}
use Rattle.nx_events.specs.Items.{items_of_token, state_behind, items_at_end}
use Rattle.nx_events.specs.declared.state.EventState.{EventState}
use Rattle.nx_events.specs.declared.item.Item.{Item}
use Rattle.nx_events.specs.declared.item.Item.TheVariants as items

-- the same so many bytes on
abbrev pub placed_item : ℕ → Item → Item
placed_item distance (items.Event event span) = items.Event event (placed_span distance span)
placed_item distance (items.Fault fault) = items.Fault (placed_fault distance fault)

abbrev pub placed_token : ℕ → Token → Token
placed_token distance token = record { kind = token.kind; from = distance + token.from; bytes = token.bytes }

-- a token farther on gives the same items farther on
abbrev pub ItemsMoveWithTokens : Type 0
ItemsMoveWithTokens = (distance : ℕ) (state : EventState) (token : Token) → run_back state.run ≤ token.from →
    items_of_token state (placed_token distance token) ≡ map (placed_item distance) (items_of_token state token)

-- and the same state
abbrev pub StatesHoldNoPlace : Type 0
StatesHoldNoPlace = (distance : ℕ) (state : EventState) (token : Token) →
    state_behind state (placed_token distance token) ≡ state_behind state token

-- a text that is longer gives the same items at its end
abbrev pub ItemsMoveWithEnd : Type 0
ItemsMoveWithEnd = (distance : ℕ) (state : EventState) (len : ℕ) → run_back state.run ≤ len →
    items_at_end state (distance + len) ≡ map (placed_item distance) (items_at_end state len)
