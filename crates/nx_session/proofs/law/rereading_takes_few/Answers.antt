use Rattle.nx_session.proofs.Rereading.{rereading_takes_few}
use Rattle.nx_session.proofs.law.rereading_takes_few.Goals as goal

pub returns : goal.returns
returns c = rereading_takes_few
