use Rattle.nx_marks.specs.Editing.{noted}
use Rattle.nx_marks.proofs.Backs.{edit_at}
use Rattle.nx_marks.proofs.law.edits_go_back.Goals as goal

pub returns : goal.returns
returns g c = λ from to added kept ordered whole ends touched. edit_at from to added (noted kept) ordered whole ends touched
