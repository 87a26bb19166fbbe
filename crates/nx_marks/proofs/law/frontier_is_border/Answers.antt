use Rattle.nx_marks.proofs.Moving.{border_of}
use Rattle.nx_marks.proofs.law.frontier_is_border.Goals as goal

pub returns : goal.returns
returns g c = λ machine text kept utf8 right.
    border_of (g.A.Machine.is_state machine) (g.A.Machine.means machine) (g.A.Machine.rules machine) (g.met.A.Machine.rule_laws machine) text utf8 kept right
