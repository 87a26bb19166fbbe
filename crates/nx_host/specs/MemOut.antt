-- What a `MemOut` shows, and what its writes do to it.
use Rattle.std.specs.Prelude.{◌≡◌, ℕ, ◌/◌, List, ◌++◌, take, length, Result, Ok, Err}
use Rattle.nx_host.specs.declared.calls.Calls.{Calls}
use Rattle.nx_host.specs.declared.memory_out.MemOut.{MemOut}
use Rattle.nx_host.specs.declared.out.OutFault.{OutFault}
use Rattle.nx_host.specs.declared.out.OutFault.TheVariants.{Failed, NoMemory}

-- the bytes written so far
abbrev pub bytes_in : MemOut → List ℕ
bytes_in memory = memory.written.items

-- the writes made so far, those that are to fail, and how many did
abbrev pub writes_of : MemOut → Calls
writes_of memory = memory.writes

-- the first half of the bytes, rounded down
abbrev pub half_of : List ℕ → List ℕ
half_of bytes = take (length bytes / 2) bytes

-- a write appended the bytes whole, half of them, or none
abbrev pub AppendsPart : {A : Type 0} → Result A OutFault → List ℕ → List ℕ → List ℕ → Type 0
AppendsPart (Ok done) old bytes new = new ≡ old ++ bytes
AppendsPart (Err Failed) old bytes new = new ≡ old ++ half_of bytes
AppendsPart (Err NoMemory) old bytes new = new ≡ old
