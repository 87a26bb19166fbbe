use Rattle.nx_recovery.proofs.Validity.{no_faults_is_valid}
use Rattle.nx_recovery.proofs.law.no_faults_is_valid.Goals as goal

pub returns : goal.returns
returns c = no_faults_is_valid
