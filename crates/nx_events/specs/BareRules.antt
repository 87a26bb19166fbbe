-- What the machine without a schema does: its states mean themselves, and its faults are those among the items of its tokens.
use Rattle.std.specs.Prelude.{not, is_some, List, length}
use Rattle.nx_base.specs.Rules.{Lexeme, Rules, token_at}
use Rattle.nx_base.specs.declared.fault.Fault.{Fault}
use Rattle.nx_events.specs.Among.{faults_among}
use Rattle.nx_events.specs.Items.{first_state, items_of_token, state_behind, items_at_end}
use Rattle.nx_events.specs.Runs.{run_back}
use Rattle.nx_events.specs.declared.state.EventState.{EventState}

-- of the token that follows, where the pending run begins at 0, and of the end
abbrev pub gives_bare : EventState → Lexeme → List Fault
gives_bare state lexeme = faults_among (items_of_token state (token_at (run_back state.run) lexeme))

abbrev pub ends_bare : EventState → List Fault
ends_bare state = faults_among (items_at_end state (run_back state.run))

-- wherever a token stands, it leads to the same state
abbrev pub bare_rules : Rules EventState
bare_rules = record {
  first = first_state;
  after = λ state lexeme. state_behind state (token_at 0 lexeme);
  gives = gives_bare;
  ends = ends_bare;
  back = λ state. run_back state.run;
  depth = λ state. length state.elements;
  may_mark = λ state. not (is_some state.run);
}
