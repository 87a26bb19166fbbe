-- The lengths of months, and those before a month together.
use Rattle.std.proofs.Common.{◌≡◌, ℕ, zero, suc, ◌-◌, ◌≤◌, Bool, true, false, List, [], ◌∷◌, take, get_or, sum, refl, arith}
use Rattle.std.specs.List.{list_all}
use Rattle.std.specs.Prelude.{nat_le}
use Rattle.std.proofs.lemmas.Bool.{and_parts, leb-true}
use Rattle.std.proofs.lemmas.List.Sums.{sum_by-take-le}
use Rattle.rng_more_types.specs.Calendar.{month_lengths, is_leap, is_day}

few_leap : (n : ℕ) → sum (take n (month_lengths true)) ≤ 366
few_leap n = let most = sum_by-take-le (λ x. x) (month_lengths true) n in omega (arith, most)

few_other : (n : ℕ) → sum (take n (month_lengths false)) ≤ 366
few_other n = let most = sum_by-take-le (λ x. x) (month_lengths false) n in omega (arith, most)

pub few_days : (leap : Bool) (n : ℕ) → sum (take n (month_lengths leap)) ≤ 366
few_days true n = few_leap n
few_days false n = few_other n

at_most : (most : ℕ) (xs : List ℕ) (i : ℕ) → list_all (λ x. nat_le x most) xs ≡ true → get_or xs i 0 ≤ most
at_most most [] i all = omega arith
at_most most (x ∷ xs) zero all = leb-true x most (and_parts (nat_le x most) _ all).0
at_most most (x ∷ xs) (suc i) all = at_most most xs i (and_parts (nat_le x most) _ all).1

short_months : (leap : Bool) (i : ℕ) → get_or (month_lengths leap) i 0 ≤ 31
short_months true i = at_most 31 (month_lengths true) i refl
short_months false i = at_most 31 (month_lengths false) i refl

pub day_fits : (year month day : ℕ) → is_day year month day ≡ true → day ≤ 31
day_fits year month day is =
    let last = leb-true day (get_or (month_lengths (is_leap year)) (month - 1) 0) (and_parts (nat_le 1 day) _ is).1 in
    omega (arith, last, short_months (is_leap year) (month - 1))
