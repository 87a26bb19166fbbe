-- Exit statuses, and the status of a run that is stopped.
use Rattle.std.specs.Prelude.{ℕ}
use Rattle.nx_host.specs.declared.out.OutFault.{OutFault}
use Rattle.nx_host.specs.declared.out.OutFault.TheVariants.{Failed, NoMemory}
use Rattle.nx_run.specs.declared.status.Status.{Status}
use Rattle.nx_run.specs.declared.status.Status.TheVariants.{Done, Refused, Words, Script, Output, Memory}

abbrev pub code_of : Status → ℕ
code_of Done = 0
code_of Refused = 1
code_of Words = 2
code_of Script = 3
code_of Output = 4
code_of Memory = 5

-- the status of a run that stops because the output refused a write
abbrev pub stop_status : OutFault → Status
stop_status Failed = Output
stop_status NoMemory = Memory
