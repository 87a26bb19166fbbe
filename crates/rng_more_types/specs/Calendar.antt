-- The Gregorian calendar: XML Schema Part 2, section 3.2.7 and appendix D.
use Rattle.std.specs.Prelude.{ℕ, zero, suc, ◌+◌, ◌-◌, ◌*◌, ◌%◌, nat_le, Bool, not, ◌==◌, ◌&&◌, ◌||◌, if◌then◌else◌, List, [], ◌∷◌, take, sum, get_or}

-- Years are counted from one long ago, so that the year n of the common era is the year n + 1,000,000,000 of the count. As this
-- is a multiple of 400, leap years stay where they are.
abbrev pub era : ℕ
era = 1000000000

-- every fourth year, of those at the end of a century every fourth
abbrev pub is_leap : ℕ → Bool
is_leap year = year % 4 == 0 && (not (year % 100 == 0) || year % 400 == 0)

-- the days of each month, January first, in a leap year and in another
abbrev pub month_lengths : Bool → List ℕ
month_lengths leap =
    31 ∷ (if leap then 29 else 28) ∷ 31 ∷ 30 ∷ 31 ∷ 30 ∷ 31 ∷ 31 ∷ 30 ∷ 31 ∷ 30 ∷ 31 ∷ []

-- a month, and a day of a month of a year
abbrev pub is_month : ℕ → Bool
is_month month = nat_le 1 month && nat_le month 12

abbrev pub is_day : ℕ → ℕ → ℕ → Bool
is_day year month day = nat_le 1 day && nat_le day (get_or (month_lengths (is_leap year)) (month - 1) 0)

-- how many leap years there are before a year
abbrev pub leap_years_before : ℕ → ℕ
leap_years_before zero = 0
leap_years_before (suc year) = (if is_leap year then 1 else 0) + leap_years_before year

-- the number of a day: of days before its year, before its month, and in its month
unfoldable pub day_number : ℕ → ℕ → ℕ → ℕ
day_number year month day =
    365 * year + leap_years_before year + sum (take (month - 1) (month_lengths (is_leap year))) + day
