-- What files mean: where they tell it, a map from URI texts to bytes, and a count of faults.
use Rattle.std.specs.Prelude.{◌≡◌, ◌≢◌, ◌↔◌, ℕ, Bool, List, Option, Some, None, is_some, Result, Ok, Err}
use Rattle.std.specs.IoError.{error_kind}
use Rattle.std.specs.declared.io.Error.{Error}
use Rattle.std.specs.declared.io.ErrorKind.TheVariants.{OutOfMemory}
use Rattle.nx_host.specs.declared.files.FileFault.{FileFault}
use Rattle.nx_host.specs.declared.files.FileFault.TheVariants.{Failed, NoMemory}
use Rattle.nx_host.specs.Count.{Rose}

-- the bytes under each URI
abbrev pub FileMap : Type 0
FileMap = List ℕ → Option (List ℕ)

-- a fetch was answered by what is under the URI, where the map is told
abbrev pub Holds : Option FileMap → List ℕ → Option (List ℕ) → Type 0
Holds None uri found = Unit {0}
Holds (Some files) uri found = found ≡ files uri

-- a question was answered by whether something is under the URI, where the map is told
abbrev pub HasFile : Option FileMap → List ℕ → Bool → Type 0
HasFile None uri found = Unit {0}
HasFile (Some files) uri found = found ≡ is_some (files uri)

-- all other keys stay, whatever became of this one
abbrev pub LeavesOthers : Option FileMap → List ℕ → Option FileMap → Type 0
LeavesOthers None uri None = Unit {0}
LeavesOthers (Some old) uri (Some new) = (key : List ℕ) → key ≢ uri → new key ≡ old key
LeavesOthers None uri (Some new) = ⊥
LeavesOthers (Some old) uri None = ⊥

-- the bytes are under the URI, and all other keys stay
abbrev pub SetsFile : Option FileMap → List ℕ → List ℕ → Option FileMap → Type 0
SetsFile None uri bytes new = LeavesOthers None uri new
SetsFile (Some old) uri bytes None = ⊥
SetsFile (Some old) uri bytes (Some new) = (new uri ≡ Some bytes) × LeavesOthers (Some old) uri (Some new)

-- a store set the key, or left it open
abbrev pub Stores : {A : Type 0} → Result A FileFault → Option FileMap → List ℕ → List ℕ → Option FileMap → Type 0
Stores (Ok done) old uri bytes new = SetsFile old uri bytes new
Stores (Err fault) old uri bytes new = LeavesOthers old uri new

-- a call counts its fault, and nothing else
abbrev pub CountsFault : {A : Type 0} → Result A FileFault → ℕ → ℕ → Type 0
CountsFault (Ok done) before now = now ≡ before
CountsFault (Err NoMemory) before now = now ≡ before
CountsFault (Err Failed) before now = Rose before now

-- an error of the system is want of memory where it says so, and otherwise a failure
abbrev pub IsFaultOf : Error → FileFault → Type 0
IsFaultOf error fault = (fault ≡ NoMemory) ↔ (error_kind error ≡ OutOfMemory)
