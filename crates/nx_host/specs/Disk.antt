-- What the files of the disk and standard output tell.
use Rattle.std.specs.Prelude.{◌≡◌, ℕ, Bool, false, List, Option, None, Result, MatchResult, IsUtf8}
use Rattle.nx_host.specs.declared.files.FileFault.{FileFault}
use Rattle.nx_host.specs.declared.files.FileFault.TheVariants.{NoMemory}
use Rattle.nx_host.specs.DiskPath.{NamesPath}
use Rattle.nx_host.specs.Files.{FileMap}

-- whatever their count of faults, the files of the disk tell no map
abbrev pub no_map : ℕ → Option FileMap
no_map faults = None

-- and standard output tells no bytes
abbrev pub no_bytes : ℕ → Option (List ℕ)
no_bytes faults = None

-- the URI names no path of the disk that is a text: it has another scheme, a host, a query or a fragment, or its path is no UTF-8
abbrev pub IsNowhere : List ℕ → Type 0
IsNowhere uri = (path : List ℕ) → NamesPath uri path → ¬ IsUtf8 path

-- a fetch found no file, or memory was wanting
abbrev pub FindsNone : {A : Type 0} → Result (Option A) FileFault → Type 0
FindsNone result = MatchResult result (λ found. found ≡ None) (λ fault. fault ≡ NoMemory)

-- a question was answered by no, or memory was wanting
abbrev pub FindsNothing : Result Bool FileFault → Type 0
FindsNothing result = MatchResult result (λ found. found ≡ false) (λ fault. fault ≡ NoMemory)
