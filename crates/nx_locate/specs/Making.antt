-- Runs in a document's URI, and the parts of what is made of them.
use Rattle.std.specs.Prelude.{◌≡◌, ℕ, ◌==◌, if◌then◌else◌, List, [], ◌∷◌, Option, Some, None}
use Rattle.nx_locate.specs.Patterns.{PatternFits}

-- the runs with which a pattern of a rules file fits, or that it doesn't
abbrev pub HasPatternRuns : List ℕ → List ℕ → List ℕ → Option (List (List ℕ)) → Type 0
HasPatternRuns base document pattern None = (runs : List (List ℕ)) → ¬ PatternFits base document pattern runs
HasPatternRuns base document pattern (Some runs) = PatternFits base document pattern runs

-- what is put in the place of a byte of a pattern, and the runs that are left behind it
abbrev pub filled_by : ℕ → List (List ℕ) → List ℕ
filled_by b [] = b ∷ []
filled_by b (run ∷ runs) = if b == 42 then run else b ∷ []

abbrev pub runs_behind : ℕ → List (List ℕ) → List (List ℕ)
runs_behind b [] = []
runs_behind b (run ∷ runs) = if b == 42 then runs else run ∷ runs
