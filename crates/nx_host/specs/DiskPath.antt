-- The paths that URIs of files name.
use Rattle.std.specs.Prelude.{◌≡◌, ◌≢◌, ℕ, ◌⊎◌, Contains, List, ◌++◌, codes}
use Rattle.percent_encoding.specs.Percent.{percent_decode}

-- what stands behind a URI's authority and the slash has no `?` and no `#`, so it is a path, without a query or a fragment
abbrev pub IsPathAlone : List ℕ → Type 0
IsPathAlone rest = (¬ Contains rest 63) × (¬ Contains rest 35)

-- the URI lies in the folder of the work, and names a path below the current folder
abbrev pub NamesInWork : List ℕ → List ℕ → Type 0
NamesInWork uri path =
    (rest : List ℕ) × (uri ≡ codes "file:///work/" ++ rest) × IsPathAlone rest × (path ≡ codes "./" ++ percent_decode rest)

-- the URI lies elsewhere, and names a path below the root
abbrev pub NamesElsewhere : List ℕ → List ℕ → Type 0
NamesElsewhere uri path =
    ((rest : List ℕ) → uri ≢ codes "file:///work/" ++ rest)
    × ((rest : List ℕ) × (uri ≡ codes "file:///" ++ rest) × IsPathAlone rest × (path ≡ codes "/" ++ percent_decode rest))

-- the URI names this path of the disk
abbrev pub NamesPath : List ℕ → List ℕ → Type 0
NamesPath uri path = NamesInWork uri path ⊎ NamesElsewhere uri path

-- where the disk is seen from its root, the URI names this path: no folder lies behind another's name
abbrev pub NamesFromRoot : List ℕ → List ℕ → Type 0
NamesFromRoot uri path = (rest : List ℕ) × (uri ≡ codes "file:///" ++ rest) × IsPathAlone rest × (path ≡ codes "/" ++ percent_decode rest)
