use Rattle.std.proofs.Common.{◌≤◌, ◌-◌, length}
use Rattle.nx_base.specs.Text.{IsPlace}
use Rattle.nx_events.specs.Runs.{run_back}
use Rattle.nx_locate.proofs.Elements.{HasSeen}
use Rattle.nx_locate.proofs.document_element.document_element.Given as goal

abbrev pub invariant-loop-at : goal.invariant-loop-at
invariant-loop-at g l = record {
  place : IsPlace l.text l.at;
  within : l.at ≤ length l.text;
  back : run_back l.state.run ≤ l.at;
  seen : HasSeen l.text l.state l.at;
  steps : l.fn.steps ≤ l.steps;
}

abbrev pub decreases-loop-at : goal.decreases-loop-at
decreases-loop-at g l = length l.text - l.at
