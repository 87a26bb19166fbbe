use Rattle.nx_recovery.proofs.Validity.{no_faults_have_valid_events}
use Rattle.nx_recovery.proofs.law.no_faults_have_valid_events.Goals as goal

pub returns : goal.returns
returns c = no_faults_have_valid_events
