use Rattle.nx_session.proofs.Counting.{step_counted}
use Rattle.nx_session.proofs.law.faults_are_counted.Goals as goal

pub returns : goal.returns
returns c = step_counted
