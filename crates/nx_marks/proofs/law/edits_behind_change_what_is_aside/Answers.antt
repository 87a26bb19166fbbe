use Rattle.nx_marks.specs.Editing.{noted}
use Rattle.nx_marks.proofs.Fronts.{edit_behind}
use Rattle.nx_marks.proofs.Refused.{note_right}
use Rattle.nx_marks.proofs.law.edits_behind_change_what_is_aside.Goals as goal

pub returns : goal.returns
returns g c = λ machine text from to added kept right before.
    let m = g.A.Machine in
    let b = edit_behind (m.is_state machine) (m.means machine) (m.rules machine) text from to added (noted kept) (note_right (m.is_state machine) (m.means machine) (m.rules machine) text kept right).holds before in
    record { front = b.front; state = b.state; marked = b.marked; aside = b.aside }
