-- How many leap years there are before a year, by three divisions.
use Rattle.std.proofs.Common.{◌≡◌, ℕ, zero, suc, ◌+◌, ◌/◌, ◌%◌, cond, refl, arith, inl, inr}
use Rattle.std.proofs.lemmas.Bool.Decides.{eqb_tells}
use Rattle.rng_more_types.specs.Calendar.{is_leap, leap_years_before}

step : (y : ℕ) → cond (is_leap y) 1 0 + (suc y + 99) / 100 + ((y + 3) / 4 + (y + 399) / 400) ≡ (y + 99) / 100 + ((suc y + 3) / 4 + (suc y + 399) / 400)
step y =
    elim (eqb_tells (y % 4) 0) [
      | inl four ↦ elim (eqb_tells (y % 100) 0) [
        | inl hundred ↦ elim (eqb_tells (y % 400) 0) [
          | inl both ↦ rw (four.0, hundred.0, both.0) (omega (arith, four.1, hundred.1, both.1))
          | inr other ↦ rw (four.0, hundred.0, other.0) (omega (arith, four.1, hundred.1, other.1))
        ]
        | inr apart ↦ elim (eqb_tells (y % 400) 0) [
          | inl both ↦ absurd (omega (arith, apart.1, both.1))
          | inr other ↦ rw (four.0, apart.0) (omega (arith, four.1, apart.1, other.1))
        ]
      ]
      | inr apart ↦ rw apart.0 (omega (arith, apart.1))
    ]

pub leaps : (y : ℕ) → leap_years_before y + (y + 99) / 100 ≡ (y + 3) / 4 + (y + 399) / 400
leaps zero = refl
leaps (suc y) = omega (arith, step y, leaps y)
