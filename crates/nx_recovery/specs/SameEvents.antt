-- Tokens of the same events lead on to the same state.
use Rattle.std.specs.Prelude.{◌≡◌, List, [], ◌∷◌, ◌++◌, Option}
use Rattle.nx_base.specs.Rules.{Lexeme, token_at}
use Rattle.nx_base.specs.Running.{after_all}
use Rattle.nx_events.specs.Among.{events_among}
use Rattle.nx_events.specs.BareRules.{bare_rules}
use Rattle.nx_events.specs.Items.{items_of_token, state_behind}
use Rattle.nx_events.specs.Runs.{run_back}
use Rattle.nx_events.specs.declared.item.Event.{Event}
use Rattle.nx_events.specs.declared.state.EventState.{EventState}
use Rattle.rng_core.specs.Patterns.{Language}
use Rattle.nx_recover.specs.RecoverRules.{Recovered, recover_rules}

-- the events of tokens that follow one another behind a state, without their spans and without the faults among them
abbrev pub events_along : EventState → List Lexeme → List Event
events_along state [] = []
events_along state (lexeme ∷ others) =
    events_among (items_of_token state (token_at (run_back state.run) lexeme))
    ++ events_along (state_behind state (token_at 0 lexeme)) others

-- two lists of tokens behind one state: their events are the same, and so are the open elements with their scopes, the flags and the
-- run that is pending behind them
pub record SameEventsBehind (state : EventState) (one other : List Lexeme) : Type 0 where
  pub events : events_along state one ≡ events_along state other
  pub states : after_all bare_rules state one ≡ after_all bare_rules state other

-- so they lead a machine that recovers to a state of the same meaning, against any schema or none
abbrev pub SameEventsLeadOnAlike : Type 0
SameEventsLeadOnAlike = (schema : Option Language) (m : Recovered) (one other : List Lexeme) → SameEventsBehind m.events one other →
    after_all (recover_rules schema) m one ≡ after_all (recover_rules schema) m other
