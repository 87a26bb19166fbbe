-- How a pattern is held against a text, from the left.
use Rattle.std.specs.Prelude.{◌≡◌, ℕ, suc, ◌+◌, ◌==◌, if◌then◌else◌, List, [], ◌∷◌, length, Option, Some, None, option_map}
use Rattle.nx_locate.specs.declared.pattern.Stretch.{Stretch}
use Rattle.nx_locate.specs.Patterns.{CanMatch, Fits}
use Rattle.nx_locate.specs.Rules.{first_of}

-- how many bytes stand before the first star of the pattern, where these begin the text; where no star is left, they are all of it
unfoldable pub front_len : List ℕ → List ℕ → Option ℕ
front_len [] [] = Some 0
front_len [] (x ∷ text) = None
front_len (b ∷ pattern) [] = if b == 42 then Some 0 else None
front_len (b ∷ pattern) (x ∷ text) =
    if b == 42 then Some 0 else (if b == x then option_map suc (front_len pattern text) else None)

-- a run that is one byte longer
abbrev pub longer : Stretch → Stretch
longer stretch = record { run = suc stretch.run; front = stretch.front }

abbrev pub empty_run : ℕ → Stretch
empty_run front = record { run = 0; front = front }

-- the shortest run before a place where the front of the pattern stands, and how long that front is
unfoldable pub next_stretch : List ℕ → List ℕ → Option Stretch
next_stretch pattern [] = option_map empty_run (front_len pattern [])
next_stretch pattern (x ∷ text) =
    first_of (option_map empty_run (front_len pattern (x ∷ text)))
    (if x == 47 then None else option_map longer (next_stretch pattern text))

-- the runs of a pattern that fits, or that it can't match
abbrev pub HasRuns : List ℕ → List ℕ → Option (List (List ℕ)) → Type 0
HasRuns pattern text None = ¬ CanMatch pattern text
HasRuns pattern text (Some runs) = Fits pattern text runs
