use Rattle.nx_marks.proofs.Meant.{right_by}
use Rattle.nx_marks.proofs.law.meanings_are_right.Goals as goal

pub returns : goal.returns
returns g c = λ machine text kept right. right_by (g.A.Machine.means machine) (g.A.Machine.rules machine) text (g.A.Machine.is_state machine) kept right
