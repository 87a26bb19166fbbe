-- Files that are noted: those in whose texts something is put to something wider.
use Rattle.std.specs.Prelude.{◌≡◌, ◌≢◌, ℕ, Bool, true, false, List, [], ◌∷◌, ◌++◌, Option, Some, None}
use Rattle.std.specs.List.{AllByRecursion}
use Rattle.nx_host.specs.Files.{FileMap, Holds}
use Rattle.rng_widen.specs.declared.widening.Widening.{Widening}
use Rattle.rng_widen.specs.declared.noted.Noted.{Noted}
use Rattle.rng_widen.specs.Handed.{widenings, handed_as}

-- the note of bytes under a URI in which this is put to something wider; none where that is nothing
abbrev pub noted_of : List ℕ → List ℕ → List Widening → Noted
noted_of uri bytes found = record { uri = uri; bytes = bytes; widenings = found }

abbrev pub noted_if : List ℕ → List ℕ → List Widening → List Noted
noted_if uri bytes [] = []
noted_if uri bytes (one ∷ more) = noted_of uri bytes (one ∷ more) ∷ []

-- what is noted when this is found under a URI; strictly, nothing
abbrev pub noted_as : Bool → List ℕ → Option (List ℕ) → List Noted
noted_as true uri found = []
noted_as false uri None = []
noted_as false uri (Some bytes) = noted_if uri bytes (widenings bytes)

-- something was found under a URI, and what is noted of it came behind what was noted before
abbrev pub NotesFetched : Bool → Option FileMap → List ℕ → List Noted → List Noted → Type 0
NotesFetched strict told uri before now = (found : Option (List ℕ)) × Holds told uri found × (now ≡ before ++ noted_as strict uri found)

-- something was found under a URI, this is what is handed on in place of it, and what is noted of it came behind what was noted before. So
-- it is what is noted of that text also where files don't tell what they hold
abbrev pub HandsOn : Bool → Option FileMap → List ℕ → Option (List ℕ) → List Noted → List Noted → Type 0
HandsOn strict told uri whole before now =
    (found : Option (List ℕ)) × Holds told uri found × (whole ≡ handed_as strict found) × (now ≡ before ++ noted_as strict uri found)

-- what is noted of a file is what is put to something wider in it, and that is something
pub record IsNoted (one : Noted) : Type 0 where
  pub widened : one.widenings ≡ widenings one.bytes
  pub some : one.widenings ≢ []

abbrev pub AreNoted : List Noted → Type 0
AreNoted all = AllByRecursion IsNoted all
