use Rattle.nx_recovery.proofs.Details.{faults_are_text}
use Rattle.nx_recovery.proofs.law.faults_are_text.Goals as goal

pub returns : goal.returns
returns c = faults_are_text
