-- Counts of faults.
use Rattle.std.specs.Prelude.{ℕ, ◌+◌, ◌-◌, ◌^◌, ◌≤◌, min}

-- one more, where the greatest count stays
abbrev pub one_more : ℕ → ℕ
one_more count = min (count + 1) (2 ^ 64 - 1)

-- the count is greater than before, or stands at its last value; it never falls
pub record Rose (before now : ℕ) : Type 0 where
  pub later : before ≤ now
  pub risen : min (before + 1) (2 ^ 64 - 1) ≤ now
