use Rattle.nx_session.proofs.Marks.{one_edit_takes_few}
use Rattle.nx_session.proofs.law.one_edit_takes_few.Goals as goal

pub returns : goal.returns
returns c = one_edit_takes_few
