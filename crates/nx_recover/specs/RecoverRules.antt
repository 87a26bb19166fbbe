-- What recovery does as a machine: rules over residuals, with a schema or without.
use Rattle.std.specs.Prelude.{not, is_some, List, [], length, Option, Some, None}
use Rattle.nx_base.specs.Rules.{Lexeme, Rules, token_at}
use Rattle.nx_base.specs.declared.fault.Fault.{Fault}
use Rattle.nx_events.specs.Among.{faults_among}
use Rattle.nx_events.specs.Items.{first_state, items_of_token, state_behind, items_at_end}
use Rattle.nx_events.specs.Runs.{run_back}
use Rattle.nx_events.specs.declared.item.Item.{Item}
use Rattle.nx_events.specs.declared.state.EventState.{EventState}
use Rattle.rng_core.specs.Patterns.{Language}
use Rattle.rng_kept.specs.Standing.{first_residual}
use Rattle.nx_recover.specs.Table.{Form}
use Rattle.nx_recover.specs.Items.{form_along, found_along}

-- what a state means: the state of events, and the levels
pub record Recovered : Type 0 where
  pub events : EventState
  pub levels : Form

-- without a schema there are none
abbrev pub no_levels : Form
no_levels = record { here = None; elements = [] }

abbrev pub first_levels : Option Language → Form
first_levels None = no_levels
first_levels (Some g) = record { here = Some (first_residual g.start); elements = [] }

abbrev pub levels_behind : Option Language → Form → List Item → Form
levels_behind None l all = l
levels_behind (Some g) l all = form_along g l all

abbrev pub faults_behind : Option Language → Form → List Item → List Fault
faults_behind None l all = faults_among all
faults_behind (Some g) l all = found_along g l all

-- the items of the token that follows, where the pending run begins at 0
abbrev pub items_given : Recovered → Lexeme → List Item
items_given m lexeme = items_of_token m.events (token_at (run_back m.events.run) lexeme)

abbrev pub recover_rules : Option Language → Rules Recovered
recover_rules g = record {
  first = record { events = first_state; levels = first_levels g };
  after = λ m lexeme. record {
    events = state_behind m.events (token_at 0 lexeme);
    levels = levels_behind g m.levels (items_given m lexeme);
  };
  gives = λ m lexeme. faults_behind g m.levels (items_given m lexeme);
  ends = λ m. faults_behind g m.levels (items_at_end m.events (run_back m.events.run));
  back = λ m. run_back m.events.run;
  depth = λ m. length m.events.elements;
  may_mark = λ m. not (is_some m.events.run);
}
