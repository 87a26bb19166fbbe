use Rattle.nx_base.proofs.Alike.{same_states_go_on}
use Rattle.nx_base.proofs.machine.same_states_go_on.Goals as goal

pub returns : goal.returns
returns g c = same_states_go_on g.A.Machine.later g.A.Machine.is_state g.A.Machine.means g.A.Machine.rules g.met.A.Machine.laws
