-- a border in front of the place, and a state there
use Rattle.std.proofs.Common.{◌<◌, ◌-◌}
use Rattle.nx_complete.proofs.Walk.{IsOnWay}
use Rattle.nx_complete.proofs.walking.token_before.Given as goal

abbrev pub invariant-loop-token : goal.invariant-loop-token
invariant-loop-token g l =
    let m = g.A.Machine in
    IsOnWay (m.later l.fn.machine l.machine) (m.is_state l.machine) (m.means l.machine) (m.rules l.machine) l.text l.here l.at l.state

abbrev pub decreases-loop-token : goal.decreases-loop-token
decreases-loop-token g l = l.at - l.here
