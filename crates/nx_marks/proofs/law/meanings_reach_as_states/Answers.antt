use Rattle.nx_marks.proofs.Meant.{will_by}
use Rattle.nx_marks.proofs.law.meanings_reach_as_states.Goals as goal

pub returns : goal.returns
returns g c = λ machine text count end kept will. will_by (g.A.Machine.means machine) (g.A.Machine.rules machine) text count end kept will
