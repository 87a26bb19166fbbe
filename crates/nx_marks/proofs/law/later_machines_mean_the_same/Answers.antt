use Rattle.nx_marks.proofs.Meant.{kept_later}
use Rattle.nx_marks.proofs.law.later_machines_mean_the_same.Goals as goal

pub returns : goal.returns
returns g c = λ earlier now text kept is_later right.
    let m = g.A.Machine in
    kept_later m.later m.is_state m.means m.rules g.met.A.Machine.laws earlier now (m.rules earlier) text kept is_later right
