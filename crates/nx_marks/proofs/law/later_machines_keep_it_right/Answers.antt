use Rattle.nx_marks.proofs.Later.{right_later}
use Rattle.nx_marks.proofs.law.later_machines_keep_it_right.Goals as goal

pub returns : goal.returns
returns g c = λ earlier now text kept is_later right.
    right_later g.A.Machine.later g.A.Machine.is_state g.A.Machine.means g.A.Machine.rules g.met.A.Machine.laws earlier now text kept is_later right
