-- What an output means: where it tells it, the bytes written, and a count of faults.
use Rattle.std.specs.Prelude.{◌≡◌, ℕ, List, ◌++◌, Option, Some, None, Result, Ok, Err}
use Rattle.nx_host.specs.declared.out.OutFault.{OutFault}
use Rattle.nx_host.specs.declared.out.OutFault.TheVariants.{Failed, NoMemory}
use Rattle.nx_host.specs.Count.{Rose}

-- the bytes came to the end of what was written, where that is told
abbrev pub Appends : Option (List ℕ) → List ℕ → Option (List ℕ) → Type 0
Appends None bytes None = Unit {0}
Appends (Some old) bytes (Some new) = new ≡ old ++ bytes
Appends None bytes (Some new) = ⊥
Appends (Some old) bytes None = ⊥

-- some of the bytes did, from the first on
abbrev pub AppendsPrefix : Option (List ℕ) → List ℕ → Option (List ℕ) → Type 0
AppendsPrefix old bytes new = (front rest : List ℕ) × (bytes ≡ front ++ rest) × Appends old front new

-- what a write did
abbrev pub Writes : {A : Type 0} → Result A OutFault → Option (List ℕ) → List ℕ → Option (List ℕ) → Type 0
Writes (Ok done) old bytes new = Appends old bytes new
Writes (Err Failed) old bytes new = AppendsPrefix old bytes new
Writes (Err NoMemory) old bytes new = new ≡ old

-- what several writes of one text did: where one is refused, a part of the text was written
abbrev pub WritesInParts : {A : Type 0} → Result A OutFault → Option (List ℕ) → List ℕ → Option (List ℕ) → Type 0
WritesInParts (Ok done) old bytes new = Appends old bytes new
WritesInParts (Err fault) old bytes new = AppendsPrefix old bytes new

-- a call counts its fault, and nothing else
abbrev pub CountsOutFault : {A : Type 0} → Result A OutFault → ℕ → ℕ → Type 0
CountsOutFault (Ok done) before now = now ≡ before
CountsOutFault (Err NoMemory) before now = now ≡ before
CountsOutFault (Err Failed) before now = Rose before now
