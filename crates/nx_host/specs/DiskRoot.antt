-- What a URI names on the disk, by where paths begin.
use Rattle.std.specs.Prelude.{List, ℕ, Option, Some, None, IsUtf8}
use Rattle.nx_host.specs.Disk.{IsNowhere}
use Rattle.nx_host.specs.DiskPath.{NamesPath, NamesFromRoot}
use Rattle.nx_host.specs.declared.disk_path.Start.{Start}
use Rattle.nx_host.specs.declared.disk_path.Start.TheVariants.{Work, Root}

-- where the disk is seen from its root, the URI names no path that is a text
abbrev pub IsNowhereFromRoot : List ℕ → Type 0
IsNowhereFromRoot uri = (path : List ℕ) → NamesFromRoot uri path → ¬ IsUtf8 path

-- the URI names this path, or none that is a text
abbrev pub IsPathFrom : Start → List ℕ → Option (List ℕ) → Type 0
IsPathFrom Work uri None = IsNowhere uri
IsPathFrom Work uri (Some path) = NamesPath uri path
IsPathFrom Root uri None = IsNowhereFromRoot uri
IsPathFrom Root uri (Some path) = NamesFromRoot uri path
