-- What is written as a literal is read as what it stands for.
use Rattle.std.proofs.Common.{◌≡◌, ℕ, ◌+◌, ◌-◌, ◌*◌, ◌/◌, ◌%◌, ◌<◌, Bool, true, false, eqb, cond, ◌&&◌, ◌||◌, ◌==◌, List, [], ◌∷◌, ◌++◌, length, Some, refl, arith, inl, inr}
use Rattle.std.specs.Prelude.{nat_le}
use Rattle.std.specs.List.{prefix_len, list_all}
use Rattle.std.specs.Char.{is_ascii_digit}
use Rattle.std.specs.Str.Parse.{digits_value}
use Rattle.std.proofs.Math.Seq.{take-append_seam, drop-append_seam}
use Rattle.std.proofs.Math.Dec.{eqb-suc-zero}
use Rattle.std.proofs.lemmas.Bool.{and_parts, or_cases, leb-true, eqb-true, eq-eqb, ne_eqb, false≢true}
use Rattle.rng_more_types.specs.Calendar.{is_month, is_day, day_number}
use Rattle.rng_more_types.specs.Literals.{Year, Clock, Literal, Day, TimeOfDay, DayAndTime, WholeYear, WholeMonth, type_of, two_digits, spelled_year, spelled_fraction, spelled_minutes, spelled_clock, spelled_zone, spelled}
use Rattle.rng_more_types.specs.Literals.{is_year_number, year_in_count, count_of, is_zero_digit, is_time, is_clock, is_shift, is_zone, is_right, moment_at, some_day, seconds_of_clock, moment_of}
use Rattle.rng_more_types.specs.Reading.{two_at, two_behind, unsigned_year_at, year_at, month_at, day_at, minutes_at, fraction_at, clock_at, clock_behind, shift_of, zone_of, moment_in, date_of, time_of, date_time_of, year_of, month_of, moment_read}
use Rattle.rng_more_types.specs.declared.moment.Zone.{Zone}
use Rattle.rng_more_types.specs.declared.moment.Zone.TheVariants.{Unzoned, Utc, Ahead, Behind}
use Rattle.rng_more_types.proofs.Digits.{digit_range, range_digit}
use Rattle.rng_more_types.proofs.Months.{day_fits}

two_read : (n : ℕ) (rest : List ℕ) → n < 100 → two_at (two_digits n ++ rest) ≡ Some (n, rest)
unfolding two_at
two_read n rest small =
    let high : is_ascii_digit (48 + n / 10) ≡ true = range_digit (48 + n / 10) (omega arith) (omega arith) in
    let low : is_ascii_digit (48 + n % 10) ≡ true = range_digit (48 + n % 10) (omega arith) (omega arith) in
    let value : 10 * (48 + n / 10 - 48) + (48 + n % 10 - 48) ≡ n = omega arith in
    rw (high, low, value) refl

behind_read : (mark n : ℕ) (rest : List ℕ) → n < 100 → two_behind mark (mark ∷ (two_digits n ++ rest)) ≡ Some (n, rest)
unfolding two_behind
behind_read mark n rest small = rw (eq-eqb mark mark refl) (two_read n rest small)

digits_read : (digits rest : List ℕ) → list_all is_ascii_digit digits ≡ true → prefix_len is_ascii_digit rest ≡ 0 → prefix_len is_ascii_digit (digits ++ rest) ≡ length digits
digits_read [] rest all ends = ends
digits_read (c ∷ cs) rest all ends =
    let parts = and_parts (is_ascii_digit c) (list_all is_ascii_digit cs) all in
    rw parts.0 (omega (arith, digits_read cs rest parts.1 ends))

pub year_digits : (digits : List ℕ) → is_year_number digits ≡ true → list_all is_ascii_digit digits ≡ true
unfolding is_year_number
year_digits digits is = (and_parts (list_all is_ascii_digit digits) _ is).0

some_year : is_year_number [] ≡ true → ⊥
unfolding is_year_number
some_year is = false≢true is

unsigned_read : (negative : Bool) (digits rest : List ℕ) → is_year_number digits ≡ true → prefix_len is_ascii_digit rest ≡ 0
    → unsigned_year_at negative (digits ++ rest) ≡ Some (year_in_count negative (digits_value 10 digits), rest)
unfolding unsigned_year_at
unsigned_read negative digits rest is ends =
    let count = digits_read digits rest (year_digits digits is) ends in
    rw (count, take-append_seam digits rest, drop-append_seam digits rest, is) refl

signed_read : (negative : Bool) (digits rest : List ℕ) → is_year_number digits ≡ true → prefix_len is_ascii_digit rest ≡ 0
    → year_at ((cond negative (45 ∷ digits) digits) ++ rest) ≡ Some (year_in_count negative (digits_value 10 digits), rest)
unfolding year_at
signed_read true digits rest is ends = unsigned_read true digits rest is ends
signed_read false [] rest is ends = absurd (some_year is)
signed_read false (c ∷ cs) rest is ends =
    let range = digit_range c (and_parts (is_ascii_digit c) (list_all is_ascii_digit cs) (year_digits (c ∷ cs) is)).0 in
    let other : eqb c 45 ≡ false = ne_eqb c 45 (λ same. absurd (omega (arith, range.0, same))) in
    rw other (unsigned_read false (c ∷ cs) rest is ends)

year_read : (year : Year) (rest : List ℕ) → is_year_number year.digits ≡ true → prefix_len is_ascii_digit rest ≡ 0 → year_at (spelled_year year ++ rest) ≡ Some (count_of year, rest)
year_read year rest is ends = signed_read year.negative year.digits rest is ends

month_small : (month : ℕ) → is_month month ≡ true → month < 100
month_small month is = omega (arith, leb-true month 12 (and_parts (nat_le 1 month) (nat_le month 12) is).1)

month_read : (year : Year) (month : ℕ) (rest : List ℕ) → is_year_number year.digits ≡ true → is_month month ≡ true
    → month_at (spelled_year year ++ (45 ∷ (two_digits month ++ rest))) ≡ Some (count_of year, month, rest)
unfolding month_at
month_read year month rest is right =
    rw (year_read year (45 ∷ (two_digits month ++ rest)) is refl, behind_read 45 month rest (month_small month right), right) refl

day_read : (year : Year) (month day : ℕ) (rest : List ℕ) → is_year_number year.digits ≡ true → is_month month ≡ true → is_day (count_of year) month day ≡ true
    → day_at (spelled_year year ++ (45 ∷ (two_digits month ++ (45 ∷ (two_digits day ++ rest))))) ≡ Some (day_number (count_of year) month day, rest)
unfolding day_at
day_read year month day rest is right good =
    let small : day < 100 = omega (arith, day_fits (count_of year) month day good) in
    rw (month_read year month (45 ∷ (two_digits day ++ rest)) is right, behind_read 45 day rest small, good) refl

minutes_read : (hour minute : ℕ) (rest : List ℕ) → hour < 100 → minute < 100 → minutes_at (spelled_minutes hour minute ++ rest) ≡ Some (hour, minute, rest)
unfolding minutes_at
minutes_read hour minute rest small few =
    rw (two_read hour (58 ∷ (two_digits minute ++ rest)) small, behind_read 58 minute rest few) refl

zone_ends : (zone : Zone) → prefix_len is_ascii_digit (spelled_zone zone) ≡ 0
zone_ends Unzoned = refl
zone_ends Utc = refl
zone_ends (Ahead hours minutes) = refl
zone_ends (Behind hours minutes) = refl

no_fraction : (zone : Zone) → fraction_at (spelled_zone zone) ≡ Some ([], spelled_zone zone)
unfolding fraction_at
no_fraction Unzoned = refl
no_fraction Utc = refl
no_fraction (Ahead hours minutes) = refl
no_fraction (Behind hours minutes) = refl

fraction_read : (fraction : List ℕ) (zone : Zone) → list_all is_ascii_digit fraction ≡ true → fraction_at (spelled_fraction fraction ++ spelled_zone zone) ≡ Some (fraction, spelled_zone zone)
unfolding fraction_at
fraction_read [] zone all = no_fraction zone
fraction_read (c ∷ cs) zone all =
    let count = digits_read (c ∷ cs) (spelled_zone zone) all (zone_ends zone) in
    rw (count, eqb-suc-zero (length cs), take-append_seam (c ∷ cs) (spelled_zone zone), drop-append_seam (c ∷ cs) (spelled_zone zone)) refl

pub record IsClock (clock : Clock) : Type 0 where
  pub time : is_time clock.hour clock.minute clock.second clock.fraction ≡ true
  pub digits : list_all is_ascii_digit clock.fraction ≡ true
  pub hour : clock.hour < 100
  pub minute : clock.minute < 100
  pub second : clock.second < 100

hour_small : (hour minute second : ℕ) (fraction : List ℕ) → (nat_le hour 23 || (hour == 24 && (minute == 0 && (second == 0 && list_all is_zero_digit fraction)))) ≡ true → hour < 100
hour_small hour minute second fraction is = elim (or_cases (nat_le hour 23) (hour == 24 && (minute == 0 && (second == 0 && list_all is_zero_digit fraction))) is) [
  | inl before ↦ omega (arith, leb-true hour 23 before)
  | inr end ↦ omega (arith, eqb-true hour 24 (and_parts (eqb hour 24) (minute == 0 && (second == 0 && list_all is_zero_digit fraction)) end).0)
]

pub clock_parts : (clock : Clock) → is_clock clock ≡ true → IsClock clock
unfolding is_clock
clock_parts clock is =
    let parts = and_parts (is_time clock.hour clock.minute clock.second clock.fraction) (list_all is_ascii_digit clock.fraction) is in
    let tests = and_parts (nat_le clock.hour 23 || (clock.hour == 24 && (clock.minute == 0 && (clock.second == 0 && list_all is_zero_digit clock.fraction)))) (nat_le clock.minute 59 && nat_le clock.second 59) parts.0 in
    let less = and_parts (nat_le clock.minute 59) (nat_le clock.second 59) tests.1 in
    record {
      time = parts.0;
      digits = parts.1;
      hour = hour_small clock.hour clock.minute clock.second clock.fraction tests.0;
      minute = omega (arith, leb-true clock.minute 59 less.0);
      second = omega (arith, leb-true clock.second 59 less.1);
    }

clock_read : (clock : Clock) (zone : Zone) → is_clock clock ≡ true → clock_at (spelled_clock clock ++ spelled_zone zone) ≡ Some (seconds_of_clock clock, clock.fraction, spelled_zone zone)
unfolding clock_at
clock_read clock zone is =
    let parts = clock_parts clock is in
    let rest = spelled_fraction clock.fraction ++ spelled_zone zone in
    rw (minutes_read clock.hour clock.minute (58 ∷ (two_digits clock.second ++ rest)) parts.hour parts.minute, behind_read 58 clock.second rest parts.second, fraction_read clock.fraction zone parts.digits, parts.time) refl

shift_small : (hours minutes : ℕ) → is_shift hours minutes ≡ true → (hours < 100) × (minutes < 100)
shift_small hours minutes is = elim (or_cases (nat_le hours 13 && nat_le minutes 59) (hours == 14 && minutes == 0) is) [
  | inl less ↦ let p = and_parts (nat_le hours 13) (nat_le minutes 59) less in (omega (arith, leb-true hours 13 p.0), omega (arith, leb-true minutes 59 p.1))
  | inr most ↦ let p = and_parts (eqb hours 14) (eqb minutes 0) most in (omega (arith, eqb-true hours 14 p.0), omega (arith, eqb-true minutes 0 p.1))
]

shift_read : (hours minutes : ℕ) → is_shift hours minutes ≡ true → shift_of (spelled_minutes hours minutes) ≡ Some (hours, minutes)
unfolding shift_of
shift_read hours minutes is =
    let small = shift_small hours minutes is in
    rw (minutes_read hours minutes [] small.0 small.1, is) refl

zone_read : (zone : Zone) → is_zone zone ≡ true → zone_of (spelled_zone zone) ≡ Some zone
unfolding zone_of
zone_read Unzoned is = refl
zone_read Utc is = refl
zone_read (Ahead hours minutes) is = rw (shift_read hours minutes is) refl
zone_read (Behind hours minutes) is = rw (shift_read hours minutes is) refl

rest_read : (day seconds : ℕ) (fraction : List ℕ) (zone : Zone) → is_zone zone ≡ true → moment_in day seconds fraction (spelled_zone zone) ≡ Some (moment_at day seconds fraction zone)
unfolding moment_in
rest_read day seconds fraction zone is = rw (zone_read zone is) refl

date_read : (year : Year) (month day : ℕ) (zone : Zone) → is_right (Day year month day zone) ≡ true → date_of (spelled (Day year month day zone)) ≡ Some (moment_of (Day year month day zone))
unfolding date_of
date_read year month day zone is =
    let one = and_parts (is_year_number year.digits) (is_month month && (is_day (count_of year) month day && is_zone zone)) is in
    let two = and_parts (is_month month) (is_day (count_of year) month day && is_zone zone) one.1 in
    let three = and_parts (is_day (count_of year) month day) (is_zone zone) two.1 in
    rw (day_read year month day (spelled_zone zone) one.0 two.0 three.0) (rest_read (day_number (count_of year) month day) 0 [] zone three.1)

time_read : (clock : Clock) (zone : Zone) → is_right (TimeOfDay clock zone) ≡ true → time_of (spelled (TimeOfDay clock zone)) ≡ Some (moment_of (TimeOfDay clock zone))
unfolding time_of
time_read clock zone is =
    let parts = and_parts (is_clock clock) (is_zone zone) is in
    rw (clock_read clock zone parts.0, rest_read some_day (seconds_of_clock clock) clock.fraction zone parts.1) refl

clock_behind_read : (clock : Clock) (zone : Zone) → is_clock clock ≡ true → clock_behind (84 ∷ (spelled_clock clock ++ spelled_zone zone)) ≡ Some (seconds_of_clock clock, clock.fraction, spelled_zone zone)
unfolding clock_behind
clock_behind_read clock zone is = clock_read clock zone is

date_time_read : (year : Year) (month day : ℕ) (clock : Clock) (zone : Zone) → is_right (DayAndTime year month day clock zone) ≡ true
    → date_time_of (spelled (DayAndTime year month day clock zone)) ≡ Some (moment_of (DayAndTime year month day clock zone))
unfolding date_time_of
date_time_read year month day clock zone is =
    let one = and_parts (is_year_number year.digits) (is_month month && (is_day (count_of year) month day && (is_clock clock && is_zone zone))) is in
    let two = and_parts (is_month month) (is_day (count_of year) month day && (is_clock clock && is_zone zone)) one.1 in
    let three = and_parts (is_day (count_of year) month day) (is_clock clock && is_zone zone) two.1 in
    let four = and_parts (is_clock clock) (is_zone zone) three.1 in
    rw (day_read year month day (84 ∷ (spelled_clock clock ++ spelled_zone zone)) one.0 two.0 three.0, clock_behind_read clock zone four.0) (rest_read (day_number (count_of year) month day) (seconds_of_clock clock) clock.fraction zone four.1)

whole_year_read : (year : Year) (zone : Zone) → is_right (WholeYear year zone) ≡ true → year_of (spelled (WholeYear year zone)) ≡ Some (moment_of (WholeYear year zone))
unfolding year_of
whole_year_read year zone is =
    let parts = and_parts (is_year_number year.digits) (is_zone zone) is in
    rw (year_read year (spelled_zone zone) parts.0 (zone_ends zone)) (rest_read (day_number (count_of year) 1 1) 0 [] zone parts.1)

whole_month_read : (year : Year) (month : ℕ) (zone : Zone) → is_right (WholeMonth year month zone) ≡ true → month_of (spelled (WholeMonth year month zone)) ≡ Some (moment_of (WholeMonth year month zone))
unfolding month_of
whole_month_read year month zone is =
    let one = and_parts (is_year_number year.digits) (is_month month && is_zone zone) is in
    let two = and_parts (is_month month) (is_zone zone) one.1 in
    rw (month_read year month (spelled_zone zone) one.0 two.0) (rest_read (day_number (count_of year) month 1) 0 [] zone two.1)

pub literal_read : (literal : Literal) → is_right literal ≡ true → moment_read (type_of literal) (spelled literal) ≡ Some (moment_of literal)
literal_read (Day year month day zone) is = date_read year month day zone is
literal_read (TimeOfDay clock zone) is = time_read clock zone is
literal_read (DayAndTime year month day clock zone) is = date_time_read year month day clock zone is
literal_read (WholeYear year zone) is = whole_year_read year zone is
literal_read (WholeMonth year month zone) is = whole_month_read year month zone is
