-- Exit statuses, and the status of a run that is stopped.
use Rattle.std.specs.Prelude.{ℕ, suc, zero, Bool, true, false, List, if◌then◌else◌}
use Rattle.std.specs.List.{list_any}
use Rattle.nx_host.specs.declared.out.OutFault.{OutFault}
use Rattle.nx_host.specs.declared.out.OutFault.TheVariants as fault
use Rattle.nx_check.specs.declared.status.Status.{Status}
use Rattle.nx_check.specs.declared.status.Status.TheVariants.{Right, Faulty, Words, Unread, Output, Memory}
use Rattle.nx_check.specs.declared.told.Told.{Told}
use Rattle.nx_check.specs.declared.told.Verdict.{Verdict}
use Rattle.nx_check.specs.declared.told.Verdict.TheVariants as verdict

abbrev pub code_of : Status → ℕ
code_of Right = 0
code_of Faulty = 1
code_of Words = 2
code_of Unread = 3
code_of Output = 4
code_of Memory = 5

-- the status of a run that stops because the output refused a write
abbrev pub stop_status : OutFault → Status
stop_status fault.Failed = Output
stop_status fault.NoMemory = Memory

-- the document has faults
abbrev pub is_faulty : Verdict → Bool
is_faulty (verdict.Checked zero) = false
is_faulty (verdict.Checked (suc count)) = true
is_faulty other = false

-- it isn't checked
abbrev pub is_unread : Verdict → Bool
is_unread verdict.Unread = true
is_unread other = false

-- there was no memory to check it
abbrev pub is_starved : Verdict → Bool
is_starved verdict.Starved = true
is_starved other = false

abbrev pub status_by : Bool → Bool → Bool → Status
status_by starved unread faulty =
    if starved then Memory else (if unread then Unread else (if faulty then Faulty else Right))

-- the status of a run that came to the end of the documents: the worst that became of one
abbrev pub status_of : List Told → Status
status_of all = status_by (list_any (λ (told : Told). is_starved told.verdict) all) (list_any (λ (told : Told). is_unread told.verdict) all)
    (list_any (λ (told : Told). is_faulty told.verdict) all)
