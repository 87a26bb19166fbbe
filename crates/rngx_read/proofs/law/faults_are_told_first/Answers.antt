use Rattle.rngx_read.proofs.Order.{faults_first}
use Rattle.rngx_read.proofs.law.faults_are_told_first.Goals as goal

pub returns : goal.returns
returns c = faults_first
