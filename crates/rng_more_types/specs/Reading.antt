-- What reading finds in a text, part by part: the moment that it stands for, if it is a literal.
use Rattle.std.specs.Prelude.{ℕ, ◌+◌, ◌-◌, ◌*◌, Bool, true, false, ◌==◌, ◌&&◌, if◌then◌else◌, List, [], ◌∷◌, length, take, drop, Option, Some, None, option_map, option_and_then}
use Rattle.std.specs.List.{prefix_len}
use Rattle.std.specs.Char.{is_ascii_digit}
use Rattle.std.specs.Str.Parse.{digits_value}
use Rattle.rng_more_types.specs.Calendar.{is_month, is_day, day_number}
use Rattle.rng_more_types.specs.Literals.{is_year_number, year_in_count, is_time, is_shift, Moment, moment_at, within_a_day, some_day, seconds_of}
use Rattle.rng_more_types.specs.declared.moment.Zone.{Zone}
use Rattle.rng_more_types.specs.declared.moment.Zone.TheVariants.{Unzoned, Utc, Ahead, Behind}
use Rattle.rng_more_types.specs.declared.more_type.MoreType.{MoreType}
use Rattle.rng_more_types.specs.declared.more_type.MoreType.TheVariants.{Date, Time, DateTime, GYear, GYearMonth, HexBinary, Base64Binary}

-- the next step, from what the one before found
infixl 10 ◌>>=◌
abbrev pub ◌>>=◌ : {A B : Type 0} → Option A → (A → Option B) → Option B
found >>= more = option_and_then more found

-- a number of two digits, and what follows it
unfoldable pub two_at : List ℕ → Option (ℕ × List ℕ)
two_at [] = None
two_at (a ∷ []) = None
two_at (a ∷ (b ∷ rest)) =
    if is_ascii_digit a && is_ascii_digit b then Some (10 * (a - 48) + (b - 48), rest) else None

-- the same behind a character
unfoldable pub two_behind : ℕ → List ℕ → Option (ℕ × List ℕ)
two_behind mark [] = None
two_behind mark (c ∷ rest) = if c == mark then two_at rest else None

-- a year in the count, and what follows it
unfoldable pub unsigned_year_at : Bool → List ℕ → Option (ℕ × List ℕ)
unsigned_year_at negative text =
    let count = prefix_len is_ascii_digit text in
    if is_year_number (take count text) then Some (year_in_count negative (digits_value 10 (take count text)), drop count text) else None

unfoldable pub year_at : List ℕ → Option (ℕ × List ℕ)
year_at [] = None
year_at (c ∷ rest) = if c == 45 then unsigned_year_at true rest else unsigned_year_at false (c ∷ rest)

-- a year, a month, and what follows them
unfoldable pub month_at : List ℕ → Option (ℕ × ℕ × List ℕ)
month_at text = do
  year ← year_at text
  month ← two_behind 45 year.1
  if is_month month.0 then Some (year.0, month.0, month.1) else None

-- the number of a day, and what follows it
unfoldable pub day_at : List ℕ → Option (ℕ × List ℕ)
day_at text = do
  month ← month_at text
  day ← two_behind 45 month.2
  if is_day month.0 month.1 day.0 then Some (day_number month.0 month.1 day.0, day.1) else None

-- hours and minutes, and what follows them
unfoldable pub minutes_at : List ℕ → Option (ℕ × ℕ × List ℕ)
minutes_at text = do
  hour ← two_at text
  minute ← two_behind 58 hour.1
  Some (hour.0, minute.0, minute.1)

-- the digits of a fraction, where a point is at the front, and what follows them
unfoldable pub fraction_at : List ℕ → Option (List ℕ × List ℕ)
fraction_at [] = Some ([], [])
fraction_at (c ∷ rest) =
    if c == 46
    then (if prefix_len is_ascii_digit rest == 0 then None else Some (take (prefix_len is_ascii_digit rest) rest, drop (prefix_len is_ascii_digit rest) rest))
    else Some ([], c ∷ rest)

-- the seconds of a day, the digits of their fraction, and what follows them
unfoldable pub clock_at : List ℕ → Option (ℕ × List ℕ × List ℕ)
clock_at text = do
  minutes ← minutes_at text
  second ← two_behind 58 minutes.2
  fraction ← fraction_at second.1
  if is_time minutes.0 minutes.1 second.0 fraction.0 then Some (seconds_of minutes.0 minutes.1 + second.0, fraction.0, fraction.1) else None

-- the same behind a `T`
unfoldable pub clock_behind : List ℕ → Option (ℕ × List ℕ × List ℕ)
clock_behind [] = None
clock_behind (c ∷ rest) = if c == 84 then clock_at rest else None

-- hours and minutes of a zone, with nothing behind them
unfoldable pub shift_of : List ℕ → Option (ℕ × ℕ)
shift_of text = do
  found ← minutes_at text
  if is_shift found.0 found.1 && length found.2 == 0 then Some (found.0, found.1) else None

-- a zone, with nothing behind it
unfoldable pub zone_of : List ℕ → Option Zone
zone_of [] = Some Unzoned
zone_of (c ∷ rest) =
    if c == 90 then (if length rest == 0 then Some Utc else None)
    else (if c == 43 then option_map (λ shift. Ahead shift.0 shift.1) (shift_of rest)
    else (if c == 45 then option_map (λ shift. Behind shift.0 shift.1) (shift_of rest)
    else None))

-- the moment at these seconds of a day, in the zone that is left
unfoldable pub moment_in : ℕ → ℕ → List ℕ → List ℕ → Option Moment
moment_in day seconds fraction rest = option_map (λ zone. moment_at day seconds fraction zone) (zone_of rest)

unfoldable pub date_of : List ℕ → Option Moment
date_of text = do
  day ← day_at text
  moment_in day.0 0 [] day.1

unfoldable pub time_of : List ℕ → Option Moment
time_of text = do
  clock ← clock_at text
  option_map (λ moment. within_a_day moment) (moment_in some_day clock.0 clock.1 clock.2)

unfoldable pub date_time_of : List ℕ → Option Moment
date_time_of text = do
  day ← day_at text
  clock ← clock_behind day.1
  moment_in day.0 clock.0 clock.1 clock.2

unfoldable pub year_of : List ℕ → Option Moment
year_of text = do
  year ← year_at text
  moment_in (day_number year.0 1 1) 0 [] year.1

unfoldable pub month_of : List ℕ → Option Moment
month_of text = do
  month ← month_at text
  moment_in (day_number month.0 month.1 1) 0 [] month.2

-- the moment that a whole text stands for as a literal of the type
abbrev pub moment_read : MoreType → List ℕ → Option Moment
moment_read Date text = date_of text
moment_read Time text = time_of text
moment_read DateTime text = date_time_of text
moment_read GYear text = year_of text
moment_read GYearMonth text = month_of text
moment_read HexBinary text = None
moment_read Base64Binary text = None
