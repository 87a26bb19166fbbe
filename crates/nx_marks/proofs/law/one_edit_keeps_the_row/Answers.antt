use Rattle.nx_marks.specs.Editing.{noted}
use Rattle.nx_marks.proofs.Moving.{will_join}
use Rattle.nx_marks.proofs.Refused.{note_right}
use Rattle.nx_marks.proofs.law.one_edit_keeps_the_row.Goals as goal

pub returns : goal.returns
returns g c = λ machine text added from to kept left utf8 added_utf8 f u o right all none behind cuts first.
    let m = g.A.Machine in
    will_join (m.is_state machine) (m.means machine) (m.rules machine) text added from to (noted kept) left utf8 added_utf8 f u o (note_right (m.is_state machine) (m.means machine) (m.rules machine) text kept right) all none behind cuts first
