-- Calls of which some are to fail, by their numbers.
use Rattle.std.specs.Prelude.{◌≡◌, ℕ, List, Contains, Result, Ok, Err}
use Rattle.nx_host.specs.Count.{one_more}
use Rattle.nx_host.specs.declared.calls.Calls.{Calls}
use Rattle.nx_host.specs.declared.files.FileFault.{FileFault}
use Rattle.nx_host.specs.declared.files.FileFault.TheVariants as fault_of_files
use Rattle.nx_host.specs.declared.out.OutFault.{OutFault}
use Rattle.nx_host.specs.declared.out.OutFault.TheVariants as fault_of_out

-- no call was made yet, and those with these numbers are to fail
abbrev pub no_calls : List ℕ → Calls
no_calls failing = record { failing = failing; made = 0; faults = 0 }

-- the number of the next call, counted from 1
abbrev pub next_number : Calls → ℕ
next_number calls = one_more calls.made

-- the next call is to fail
abbrev pub FailsNext : Calls → Type 0
FailsNext calls = Contains calls.failing (next_number calls)

-- the calls with one more that did not fail
abbrev pub with_call : Calls → Calls
with_call calls = record calls { made = next_number calls }

-- the calls with one more that failed
abbrev pub with_fault : Calls → Calls
with_fault calls = record calls { made = next_number calls; faults = one_more calls.faults }

-- exactly the calls of files that are to fail were answered Failed, and raised the count of faults
abbrev pub CountsCall : {A : Type 0} → Result A FileFault → Calls → Calls → Type 0
CountsCall (Ok done) old new = (¬ FailsNext old) × (new ≡ with_call old)
CountsCall (Err fault_of_files.Failed) old new = FailsNext old × (new ≡ with_fault old)
CountsCall (Err fault_of_files.NoMemory) old new = (¬ FailsNext old) × (new ≡ old)

-- exactly the writes that are to fail were answered Failed, but where memory was wanting, and raised the count of faults
abbrev pub CountsWrite : {A : Type 0} → Result A OutFault → Calls → Calls → Type 0
CountsWrite (Ok done) old new = (¬ FailsNext old) × (new ≡ with_call old)
CountsWrite (Err fault_of_out.Failed) old new = FailsNext old × (new ≡ with_fault old)
CountsWrite (Err fault_of_out.NoMemory) old new = new ≡ old
