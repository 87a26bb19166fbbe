use Rattle.std.proofs.Common.{sym}
use Rattle.nx_marks.proofs.Meant.{edit_kept_by}
use Rattle.nx_marks.proofs.law.edits_look_at_no_state.Goals as goal

pub returns : goal.returns
returns g c = λ machine from to added kept. sym (edit_kept_by (g.A.Machine.means machine) from to added kept)
