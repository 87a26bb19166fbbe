-- Literals of dates and times, and the moments that they stand for: XML Schema Part 2, sections 3.2.7 to 3.2.11.
use Rattle.std.specs.Prelude.{ℕ, ◌+◌, ◌-◌, ◌*◌, ◌/◌, ◌%◌, nat_le, Bool, true, false, not, ◌==◌, ◌&&◌, ◌||◌, if◌then◌else◌, List, [], ◌∷◌, ◌++◌, length}
use Rattle.std.specs.List.{list_all}
use Rattle.std.specs.Char.{is_ascii_digit}
use Rattle.std.specs.Str.Parse.{digits_value}
use Rattle.rng_more_types.specs.Spaces.{without_trailing}
use Rattle.rng_more_types.specs.Calendar.{era, is_month, is_day, day_number}
use Rattle.rng_more_types.specs.declared.moment.Zone.{Zone}
use Rattle.rng_more_types.specs.declared.moment.Zone.TheVariants.{Unzoned, Utc, Ahead, Behind}
use Rattle.rng_more_types.specs.declared.more_type.MoreType.{MoreType}
use Rattle.rng_more_types.specs.declared.more_type.MoreType.TheVariants.{Date, Time, DateTime, GYear, GYearMonth}

-- a year as it is written: its sign, its digits
pub record Year : Type 0 where
  pub negative : Bool
  pub digits : List ℕ

-- a time of day: whole seconds in sixties, and the digits of the second's fraction
pub record Clock : Type 0 where
  pub hour : ℕ
  pub minute : ℕ
  pub second : ℕ
  pub fraction : List ℕ

-- a literal by its parts: a year, then a month, a day, a time, as far as there are such, and a zone
pub data Literal : Type 0 where
  Day : Year → ℕ → ℕ → Zone → Literal
  TimeOfDay : Clock → Zone → Literal
  DayAndTime : Year → ℕ → ℕ → Clock → Zone → Literal
  WholeYear : Year → Zone → Literal
  WholeMonth : Year → ℕ → Zone → Literal

-- its type
abbrev pub type_of : Literal → MoreType
type_of (Day year month day zone) = Date
type_of (TimeOfDay clock zone) = Time
type_of (DayAndTime year month day clock zone) = DateTime
type_of (WholeYear year zone) = GYear
type_of (WholeMonth year month zone) = GYearMonth

-- How it is written. A number of two digits; a `-` (45) before a year that is negative; a point (46) before a fraction; a zone
-- as `Z` (90), or as hours and minutes behind `+` (43) or `-`
abbrev pub two_digits : ℕ → List ℕ
two_digits n = (48 + n / 10) ∷ (48 + n % 10) ∷ []

abbrev pub spelled_year : Year → List ℕ
spelled_year year = if year.negative then 45 ∷ year.digits else year.digits

abbrev pub spelled_fraction : List ℕ → List ℕ
spelled_fraction [] = []
spelled_fraction (digit ∷ digits) = 46 ∷ (digit ∷ digits)

-- hh:mm, with `:` (58) between
abbrev pub spelled_minutes : ℕ → ℕ → List ℕ
spelled_minutes hour minute = two_digits hour ++ (58 ∷ two_digits minute)

abbrev pub spelled_clock : Clock → List ℕ
spelled_clock clock =
    spelled_minutes clock.hour clock.minute ++ (58 ∷ two_digits clock.second) ++ spelled_fraction clock.fraction

abbrev pub spelled_zone : Zone → List ℕ
spelled_zone Unzoned = []
spelled_zone Utc = 90 ∷ []
spelled_zone (Ahead hours minutes) = 43 ∷ spelled_minutes hours minutes
spelled_zone (Behind hours minutes) = 45 ∷ spelled_minutes hours minutes

-- the parts one after the other: Y-MM-DD, and `T` (84) before the time of a day
abbrev pub spelled : Literal → List ℕ
spelled (Day year month day zone) =
    spelled_year year ++ ((45 ∷ two_digits month) ++ (45 ∷ two_digits day) ++ spelled_zone zone)
spelled (TimeOfDay clock zone) = spelled_clock clock ++ spelled_zone zone
spelled (DayAndTime year month day clock zone) =
    spelled_year year ++ ((45 ∷ two_digits month) ++ (45 ∷ two_digits day) ++ (84 ∷ (spelled_clock clock ++ spelled_zone zone)))
spelled (WholeYear year zone) = spelled_year year ++ spelled_zone zone
spelled (WholeMonth year month zone) = spelled_year year ++ ((45 ∷ two_digits month) ++ spelled_zone zone)

-- Which parts are right. A year has 4 to 9 digits, a zero first only where there are 4, and isn't 0
abbrev pub starts_right : List ℕ → Bool
starts_right [] = false
starts_right (first ∷ more) = not (first == 48) || length more == 3

unfoldable pub is_year_number : List ℕ → Bool
is_year_number digits =
    list_all is_ascii_digit digits && (nat_le 4 (length digits) && (nat_le (length digits) 9 && (starts_right digits && not (digits_value 10 digits == 0))))

-- The year in the count of the calendar. There is no year 0: the year -n counts as 1 minus n
abbrev pub year_in_count : Bool → ℕ → ℕ
year_in_count negative number = if negative then era + 1 - number else era + number

abbrev pub count_of : Year → ℕ
count_of year = year_in_count year.negative (digits_value 10 year.digits)

-- the end of a day may be written as 24:00:00
abbrev pub is_zero_digit : ℕ → Bool
is_zero_digit c = c == 48

abbrev pub is_time : ℕ → ℕ → ℕ → List ℕ → Bool
is_time hour minute second fraction =
    (nat_le hour 23 || (hour == 24 && (minute == 0 && (second == 0 && list_all is_zero_digit fraction)))) && (nat_le minute 59 && nat_le second 59)

unfoldable pub is_clock : Clock → Bool
is_clock clock =
    is_time clock.hour clock.minute clock.second clock.fraction && list_all is_ascii_digit clock.fraction

-- up to 14 hours
abbrev pub is_shift : ℕ → ℕ → Bool
is_shift hours minutes = (nat_le hours 13 && nat_le minutes 59) || (hours == 14 && minutes == 0)

abbrev pub is_zone : Zone → Bool
is_zone Unzoned = true
is_zone Utc = true
is_zone (Ahead hours minutes) = is_shift hours minutes
is_zone (Behind hours minutes) = is_shift hours minutes

abbrev pub is_right : Literal → Bool
is_right (Day year month day zone) =
    is_year_number year.digits && (is_month month && (is_day (count_of year) month day && is_zone zone))
is_right (TimeOfDay clock zone) = is_clock clock && is_zone zone
is_right (DayAndTime year month day clock zone) =
    is_year_number year.digits && (is_month month && (is_day (count_of year) month day && (is_clock clock && is_zone zone)))
is_right (WholeYear year zone) = is_year_number year.digits && is_zone zone
is_right (WholeMonth year month zone) = is_year_number year.digits && (is_month month && is_zone zone)

-- A moment: whether it is one of a known zone, then at that of `Z`; whole seconds, counted from the count's first day; and the
-- digits of the fraction of a second, without zeros at their end
pub record Moment : Type 0 where
  pub zoned : Bool
  pub seconds : ℕ
  pub fraction : List ℕ

abbrev pub seconds_in_day : ℕ
seconds_in_day = 86400

abbrev pub seconds_of : ℕ → ℕ → ℕ
seconds_of hours minutes = 60 * (60 * hours + minutes)

-- what a zone is ahead is taken away, which leaves something: the first day of the count is long ago
abbrev pub taken_back : Zone → ℕ → ℕ
taken_back Unzoned seconds = seconds
taken_back Utc seconds = seconds
taken_back (Ahead hours minutes) seconds = seconds - seconds_of hours minutes
taken_back (Behind hours minutes) seconds = seconds + seconds_of hours minutes

abbrev pub is_zoned : Zone → Bool
is_zoned Unzoned = false
is_zoned Utc = true
is_zoned (Ahead hours minutes) = true
is_zoned (Behind hours minutes) = true

-- the moment at these seconds of a day. Those of 24:00:00 lead to the start of the next day
unfoldable pub moment_at : ℕ → ℕ → List ℕ → Zone → Moment
moment_at day seconds fraction zone = record {
  zoned = is_zoned zone;
  seconds = taken_back zone (seconds_in_day * day + seconds);
  fraction = without_trailing is_zero_digit fraction;
}

-- the same time in a day
abbrev pub within_a_day : Moment → Moment
within_a_day moment = record { zoned = moment.zoned; seconds = moment.seconds % seconds_in_day; fraction = moment.fraction }

-- any day, from which a zone can be taken back
abbrev pub some_day : ℕ
some_day = 2

abbrev pub seconds_of_clock : Clock → ℕ
seconds_of_clock clock = seconds_of clock.hour clock.minute + clock.second

-- the moment at which what a literal names starts
abbrev pub moment_of : Literal → Moment
moment_of (Day year month day zone) = moment_at (day_number (count_of year) month day) 0 [] zone
moment_of (TimeOfDay clock zone) = within_a_day (moment_at some_day (seconds_of_clock clock) clock.fraction zone)
moment_of (DayAndTime year month day clock zone) =
    moment_at (day_number (count_of year) month day) (seconds_of_clock clock) clock.fraction zone
moment_of (WholeYear year zone) = moment_at (day_number (count_of year) 1 1) 0 [] zone
moment_of (WholeMonth year month zone) = moment_at (day_number (count_of year) month 1) 0 [] zone
