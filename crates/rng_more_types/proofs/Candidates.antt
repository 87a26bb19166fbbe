-- The candidates are literals of different values.
use Rattle.std.specs.Prelude.{◌≡◌, ℕ, zero, suc, ◌+◌, ◌-◌, ◌*◌, ◌/◌, ◌%◌, ◌<◌, ◌≤◌, Bool, true, false, ◌==◌, ◌&&◌, List, [], ◌∷◌, ◌++◌, length, min, Some, codes}
use Rattle.std.proofs.Common.{refl, sym, ap, ◌∙◌, subst, arith, inl, inr, length-append}
use Rattle.std.proofs.Math.ListN.{replicate}
use Rattle.std.proofs.Math.Seq.{take-append_seam, drop-append_seam}
use Rattle.std.proofs.lemmas.Bool.{and_parts, and_from, eqb-true, eq-eqb, ne_eqb, cases_lt, cases_eq, not-true, false≢true}
use Rattle.std.proofs.lemmas.Bool.Decides.{nat_tests}
use Rattle.std.proofs.lemmas.List.{length-replicate}
use Rattle.std.proofs.lemmas.List.Folds.{list_all-append}
use Rattle.std.specs.List.{list_all, position_or_len}
use Rattle.std.specs.Char.{digit_value, is_ascii_hexdigit}
use Rattle.std.specs.Str.Parse.{digits_value}
use Rattle.rng_more_types.specs.Spaces.{is_space, is_no_space, without_trailing, trimmed, unspaced}
use Rattle.rng_more_types.specs.Calendar.{era, leap_years_before, day_number}
use Rattle.rng_more_types.specs.Literals.{Year, Clock, Literal, Day, TimeOfDay, DayAndTime, WholeYear, WholeMonth, type_of, spelled, is_right, is_year_number, is_clock, count_of, moment_of, moment_at, within_a_day, Moment}
use Rattle.rng_more_types.specs.Octets.{is_hex, octets_of_hex, is_base64, is_base64_digit, base64_value, is_filler, digits_of, fillers_of, is_one_of, octets_of_base64, is_ending, last_from}
use Rattle.rng_more_types.specs.MoreTypes.{Writes, AreSameMoment, hex_octets, base64_octets}
use Rattle.rng_more_types.specs.Laws.{is_printed, year_from, hex_octet, hex_zeros, base64_digit, base64_zeros, base64_more, candidate, CandidatesAreLiterals, CandidatesDiffer}
use Rattle.rng_more_types.specs.Reading.{moment_read}
use Rattle.rng_more_types.specs.declared.moment.Zone.TheVariants.{Unzoned}
use Rattle.rng_more_types.specs.declared.more_type.MoreType.{MoreType}
use Rattle.rng_more_types.specs.declared.more_type.MoreType.TheVariants.{Date, Time, DateTime, GYear, GYearMonth, HexBinary, Base64Binary}
use Rattle.rng_more_types.proofs.Basics.{some_value}
use Rattle.rng_more_types.proofs.Hex.{hex_count}
use Rattle.rng_more_types.proofs.Sixes.{base64_count, digits_same}
use Rattle.rng_more_types.proofs.Written.{literal_read}

-- a test passes at each number below a limit
every : ℕ → (ℕ → Bool) → Bool
every zero test = true
every (suc n) test = test n && every n test

every_at : (n i : ℕ) (test : ℕ → Bool) → every n test ≡ true → i < n → test i ≡ true
unfolding every
every_at zero i test all below = absurd (omega arith)
every_at (suc n) i test all below =
    let parts = and_parts (test n) (every n test) all in
    elim (cases_eq i n) [
      | inl same ↦ ap test same ∙ parts.0
      | inr other ↦ every_at n i test parts.1 (omega arith)
    ]

-- what can be seen is no white space
seen_no_space : (c : ℕ) → is_printed c ≡ true → is_no_space c ≡ true
seen_no_space c seen = grind (arith, nat_tests)

bare_seen : (text : List ℕ) → list_all is_printed text ≡ true → list_all is_no_space text ≡ true
bare_seen [] all = refl
bare_seen (c ∷ cs) all =
    let parts = and_parts (is_printed c) (list_all is_printed cs) all in
    and_from _ _ (seen_no_space c parts.0) (bare_seen cs parts.1)

kept_bare : (text : List ℕ) → list_all is_no_space text ≡ true → without_trailing is_space text ≡ text
kept_bare [] all = refl
kept_bare (c ∷ cs) all =
    let parts = and_parts (is_no_space c) (list_all is_no_space cs) all in
    rw (not-true _ parts.0) (ap (λ (t : List ℕ). c ∷ t) (kept_bare cs parts.1))

pub trimmed_bare : (text : List ℕ) → list_all is_no_space text ≡ true → trimmed text ≡ text
unfolding trimmed
trimmed_bare [] all = refl
trimmed_bare (c ∷ cs) all =
    let parts = and_parts (is_no_space c) (list_all is_no_space cs) all in
    rw (not-true _ parts.0) (kept_bare (c ∷ cs) all)

pub unspaced_bare : (text : List ℕ) → list_all is_no_space text ≡ true → unspaced text ≡ text
unspaced_bare [] all = refl
unspaced_bare (c ∷ cs) all =
    let parts = and_parts (is_no_space c) (list_all is_no_space cs) all in
    rw parts.0 (ap (λ (t : List ℕ). c ∷ t) (unspaced_bare cs parts.1))

-- Years from 2000 on
years_right : every 130 (λ i. is_year_number (year_from i)) ≡ true
unfolding every is_year_number
years_right = refl

years_told : every 130 (λ i. digits_value 10 (year_from i) == 2000 + i) ≡ true
unfolding every
years_told = refl

years_seen : every 130 (λ i. list_all is_printed (year_from i)) ≡ true
unfolding every
years_seen = refl

abbrev year_of : ℕ → Year
year_of i = record { negative = false; digits = year_from i }

year_right : (i : ℕ) → i < 130 → is_year_number (year_from i) ≡ true
year_right i small = every_at 130 i (λ i. is_year_number (year_from i)) years_right small

count_at : (i : ℕ) → i < 130 → count_of (year_of i) ≡ era + (2000 + i)
count_at i small = ap (λ n. era + n) (eqb-true (digits_value 10 (year_from i)) (2000 + i) (every_at 130 i (λ i. digits_value 10 (year_from i) == 2000 + i) years_told small))

leaps_grow : (d y z : ℕ) → z ≡ y + d → leap_years_before y ≤ leap_years_before z
leaps_grow zero y z same = let e : z ≡ y = omega arith in rw e (omega arith)
leaps_grow (suc d) y z same =
    let e : z ≡ suc (y + d) = omega arith in
    let before = leaps_grow d y (y + d) refl in
    let P : ℕ → Type 0 = λ n. leap_years_before y ≤ leap_years_before n in
    subst P (sym e) (omega (arith, before))

day_later : (y z : ℕ) → y < z → day_number y 1 1 < day_number z 1 1
unfolding day_number
day_later y z later = let grown = leaps_grow (z - y) y z (omega arith) in omega (arith, grown)

days_differ : (y z : ℕ) → day_number y 1 1 ≡ day_number z 1 1 → y ≡ z
days_differ y z same =
    elim (cases_lt y z) [
      | inl below ↦ absurd (let later = day_later y z below in omega (arith, later, same))
      | inr above ↦ elim (cases_lt z y) [
        | inl below ↦ absurd (let later = day_later z y below in omega (arith, later, same))
        | inr both ↦ omega arith
      ]
    ]

seconds_at : (day : ℕ) → (moment_at day 0 [] Unzoned).seconds ≡ 86400 * day
unfolding moment_at
seconds_at day = omega arith

-- one text stands for one moment
pub one_moment : (type : MoreType) (text : List ℕ) (x y : Literal) → Writes type text x → Writes type text y → moment_of x ≡ moment_of y
one_moment type text x y first second =
    let one = literal_read x first.right in
    let other = literal_read y second.right in
    let a : moment_read type (trimmed text) ≡ Some (moment_of x) = ap (λ t. moment_read t (trimmed text)) (sym first.kind) ∙ ap (moment_read (type_of x)) first.parts ∙ one in
    let b : moment_read type (trimmed text) ≡ Some (moment_of y) = ap (λ t. moment_read t (trimmed text)) (sym second.kind) ∙ ap (moment_read (type_of y)) second.parts ∙ other in
    some_value (moment_of x) (moment_of y) (sym a ∙ b)

same_moments : {type : MoreType} {a b : List ℕ} → AreSameMoment type a b → (x y : Literal) → Writes type a x → Writes type b y → moment_of x ≡ moment_of y
same_moments {type} {a} {b} same x y first second = one_moment type a x same.first first same.first_written ∙ same.same ∙ one_moment type b same.second y same.second_written second

year_differs : (i j : ℕ) → i < 130 → j < 130 → moment_at (day_number (count_of (year_of i)) 1 1) 0 [] Unzoned ≡ moment_at (day_number (count_of (year_of j)) 1 1) 0 [] Unzoned → i ≡ j
year_differs i j hi hj same =
    let days : 86400 * day_number (count_of (year_of i)) 1 1 ≡ 86400 * day_number (count_of (year_of j)) 1 1 = sym (seconds_at (day_number (count_of (year_of i)) 1 1)) ∙ ap (λ (m : Moment). m.seconds) same ∙ seconds_at (day_number (count_of (year_of j)) 1 1) in
    let day : day_number (count_of (year_of i)) 1 1 ≡ day_number (count_of (year_of j)) 1 1 = omega (arith, days) in
    let years = days_differ (count_of (year_of i)) (count_of (year_of j)) day in
    omega (arith, years, count_at i hi, count_at j hj)

-- dates and times
abbrev midnight : Clock
midnight = record { hour = 0; minute = 0; second = 0; fraction = [] }

abbrev clock_at : ℕ → Clock
clock_at i = record { hour = i / 60; minute = i % 60; second = 0; fraction = [] }

abbrev literal_at : MoreType → ℕ → Literal
literal_at Date i = Day (year_of i) 1 1 Unzoned
literal_at Time i = TimeOfDay (clock_at i) Unzoned
literal_at DateTime i = DayAndTime (year_of i) 1 1 midnight Unzoned
literal_at GYear i = WholeYear (year_of i) Unzoned
literal_at GYearMonth i = WholeMonth (year_of i) 1 Unzoned
literal_at HexBinary i = WholeYear (year_of i) Unzoned
literal_at Base64Binary i = WholeYear (year_of i) Unzoned

dates_seen : every 130 (λ i. list_all is_printed (candidate Date 0 i)) ≡ true
unfolding every
dates_seen = refl

times_seen : every 130 (λ i. list_all is_printed (candidate Time 0 i)) ≡ true
unfolding every
times_seen = refl

date_times_seen : every 130 (λ i. list_all is_printed (candidate DateTime 0 i)) ≡ true
unfolding every
date_times_seen = refl

months_seen : every 130 (λ i. list_all is_printed (candidate GYearMonth 0 i)) ≡ true
unfolding every
months_seen = refl

times_right : every 130 (λ i. is_clock (clock_at i)) ≡ true
unfolding every is_clock
times_right = refl

midnight_right : is_clock midnight ≡ true
unfolding is_clock
midnight_right = refl

written_at : (type : MoreType) (text : List ℕ) (literal : Literal) → type_of literal ≡ type → list_all is_printed text ≡ true → is_right literal ≡ true → text ≡ spelled literal → Writes type text literal
written_at type text literal kind seen right parts = record { kind = kind; right = right; parts = trimmed_bare text (bare_seen text seen) ∙ parts }

date_written : (i : ℕ) → i < 130 → Writes Date (candidate Date 0 i) (literal_at Date i)
date_written i small = written_at Date (candidate Date 0 i) (literal_at Date i) refl (every_at 130 i (λ i. list_all is_printed (candidate Date 0 i)) dates_seen small) (and_from _ _ (year_right i small) refl) refl

time_written : (i : ℕ) → i < 130 → Writes Time (candidate Time 0 i) (literal_at Time i)
time_written i small = written_at Time (candidate Time 0 i) (literal_at Time i) refl (every_at 130 i (λ i. list_all is_printed (candidate Time 0 i)) times_seen small) (and_from _ _ (every_at 130 i (λ i. is_clock (clock_at i)) times_right small) refl) refl

date_time_written : (i : ℕ) → i < 130 → Writes DateTime (candidate DateTime 0 i) (literal_at DateTime i)
date_time_written i small =
    written_at DateTime (candidate DateTime 0 i) (literal_at DateTime i) refl (every_at 130 i (λ i. list_all is_printed (candidate DateTime 0 i)) date_times_seen small)
    (and_from _ _ (year_right i small) (and_from _ _ refl (and_from _ _ refl (and_from _ _ midnight_right refl)))) refl

year_written : (i : ℕ) → i < 130 → Writes GYear (candidate GYear 0 i) (literal_at GYear i)
year_written i small = written_at GYear (candidate GYear 0 i) (literal_at GYear i) refl (every_at 130 i (λ i. list_all is_printed (year_from i)) years_seen small) (and_from _ _ (year_right i small) refl) refl

month_written : (i : ℕ) → i < 130 → Writes GYearMonth (candidate GYearMonth 0 i) (literal_at GYearMonth i)
month_written i small = written_at GYearMonth (candidate GYearMonth 0 i) (literal_at GYearMonth i) refl (every_at 130 i (λ i. list_all is_printed (candidate GYearMonth 0 i)) months_seen small) (and_from _ _ (year_right i small) refl) refl

time_seconds : (h m : ℕ) → (within_a_day (moment_at 2 (60 * (60 * h + m) + 0) [] Unzoned)).seconds ≡ (86400 * 2 + (60 * (60 * h + m) + 0)) % 86400
unfolding moment_at
time_seconds h m = refl

time_differs : (i j : ℕ) → i < 130 → j < 130 → moment_of (literal_at Time i) ≡ moment_of (literal_at Time j) → i ≡ j
time_differs i j hi hj same =
    let seconds : (86400 * 2 + (60 * (60 * (i / 60) + i % 60) + 0)) % 86400 ≡ (86400 * 2 + (60 * (60 * (j / 60) + j % 60) + 0)) % 86400 = sym (time_seconds (i / 60) (i % 60)) ∙ ap (λ (m : Moment). m.seconds) same ∙ time_seconds (j / 60) (j % 60) in
    omega (arith, seconds)

date_time_seconds : (day : ℕ) → (moment_at day (60 * (60 * 0 + 0) + 0) [] Unzoned).seconds ≡ 86400 * day
unfolding moment_at
date_time_seconds day = omega arith

date_time_differs : (i j : ℕ) → i < 130 → j < 130 → moment_of (literal_at DateTime i) ≡ moment_of (literal_at DateTime j) → i ≡ j
date_time_differs i j hi hj same =
    let days : 86400 * day_number (count_of (year_of i)) 1 1 ≡ 86400 * day_number (count_of (year_of j)) 1 1 = sym (date_time_seconds (day_number (count_of (year_of i)) 1 1)) ∙ ap (λ (m : Moment). m.seconds) same ∙ date_time_seconds (day_number (count_of (year_of j)) 1 1) in
    let day : day_number (count_of (year_of i)) 1 1 ≡ day_number (count_of (year_of j)) 1 1 = omega (arith, days) in
    let years = days_differ (count_of (year_of i)) (count_of (year_of j)) day in
    omega (arith, years, count_at i hi, count_at j hj)

-- octets in hexadecimal digits
first_octets : every 130 (λ i. is_printed (hex_octet (i / 16)) && (is_printed (hex_octet (i % 16)) && (is_ascii_hexdigit (hex_octet (i / 16)) && (is_ascii_hexdigit (hex_octet (i % 16)) && (16 * digit_value (hex_octet (i / 16)) + digit_value (hex_octet (i % 16)) == i))))) ≡ true
unfolding every
first_octets = refl

record IsFirst (i : ℕ) : Type 0 where
  seen : is_printed (hex_octet (i / 16)) ≡ true
  seen_too : is_printed (hex_octet (i % 16)) ≡ true
  digit : is_ascii_hexdigit (hex_octet (i / 16)) ≡ true
  digit_too : is_ascii_hexdigit (hex_octet (i % 16)) ≡ true
  value : 16 * digit_value (hex_octet (i / 16)) + digit_value (hex_octet (i % 16)) ≡ i

first_at : (i : ℕ) → i < 130 → IsFirst i
first_at i small =
    let all = every_at 130 i (λ i. is_printed (hex_octet (i / 16)) && (is_printed (hex_octet (i % 16)) && (is_ascii_hexdigit (hex_octet (i / 16)) && (is_ascii_hexdigit (hex_octet (i % 16)) && (16 * digit_value (hex_octet (i / 16)) + digit_value (hex_octet (i % 16)) == i))))) first_octets small in
    let a = and_parts (is_printed (hex_octet (i / 16))) _ all in
    let b = and_parts (is_printed (hex_octet (i % 16))) _ a.1 in
    let c = and_parts (is_ascii_hexdigit (hex_octet (i / 16))) _ b.1 in
    let d = and_parts (is_ascii_hexdigit (hex_octet (i % 16))) _ c.1 in
    record { seen = a.0; seen_too = b.0; digit = c.0; digit_too = d.0; value = eqb-true _ i d.1 }

zeros_all : (test : ℕ → Bool) → test 48 ≡ true → (n : ℕ) → list_all test (hex_zeros n) ≡ true
zeros_all test zero_passes zero = refl
zeros_all test zero_passes (suc n) = and_from _ _ zero_passes (and_from _ _ zero_passes (zeros_all test zero_passes n))

length-zeros : (n : ℕ) → length (hex_zeros n) ≡ 2 * n
length-zeros zero = refl
length-zeros (suc n) = omega (arith, length-zeros n)

hex_seen : (n i : ℕ) → i < 130 → list_all is_printed (candidate HexBinary n i) ≡ true
hex_seen n i small = let first = first_at i small in and_from _ _ first.seen (and_from _ _ first.seen_too (zeros_all is_printed refl n))

hex_tight : (n i : ℕ) → i < 130 → trimmed (candidate HexBinary n i) ≡ candidate HexBinary n i
hex_tight n i small = trimmed_bare (candidate HexBinary n i) (bare_seen (candidate HexBinary n i) (hex_seen n i small))

hex_right : (n i : ℕ) → i < 130 → is_hex (candidate HexBinary n i) ≡ true
unfolding is_hex
hex_right n i small =
    let first = first_at i small in
    and_from _ _ (eq-eqb _ 0 (omega (arith, length-zeros n))) (and_from _ _ first.digit (and_from _ _ first.digit_too (zeros_all is_ascii_hexdigit refl n)))

hex_counted : (n i : ℕ) → i < 130 → length (hex_octets (candidate HexBinary n i)) ≡ suc n
hex_counted n i small =
    ap (λ (t : List ℕ). length (octets_of_hex t)) (hex_tight n i small) ∙ hex_count (candidate HexBinary n i) ∙ (let long = length-zeros n in omega (arith, long))

heads : (x y : ℕ) (xs ys : List ℕ) → x ∷ xs ≡ y ∷ ys → x ≡ y
heads x y xs ys same = cc

hex_differs : (n i j : ℕ) → i < 130 → j < 130 → hex_octets (candidate HexBinary n i) ≡ hex_octets (candidate HexBinary n j) → i ≡ j
hex_differs n i j hi hj same =
    let whole : octets_of_hex (candidate HexBinary n i) ≡ octets_of_hex (candidate HexBinary n j) = ap octets_of_hex (sym (hex_tight n i hi)) ∙ same ∙ ap octets_of_hex (hex_tight n j hj) in
    sym (first_at i hi).value ∙ heads _ _ _ _ whole ∙ (first_at j hj).value

-- octets in base64: digits of zeros, then fillers
zero_digits : ℕ → ℕ
zero_digits zero = 0
zero_digits (suc zero) = 2
zero_digits (suc (suc zero)) = 3
zero_digits (suc (suc (suc n))) = suc (suc (suc (suc (zero_digits n))))

zero_fillers : ℕ → ℕ
zero_fillers zero = 0
zero_fillers (suc zero) = 2
zero_fillers (suc (suc zero)) = 1
zero_fillers (suc (suc (suc n))) = zero_fillers n

zeros_parts : (n : ℕ) → base64_zeros n ≡ replicate (zero_digits n) 65 ++ replicate (zero_fillers n) 61
unfolding zero_digits zero_fillers
zeros_parts zero = refl
zeros_parts (suc zero) = refl
zeros_parts (suc (suc zero)) = refl
zeros_parts (suc (suc (suc n))) = ap (λ (t : List ℕ). 65 ∷ 65 ∷ 65 ∷ 65 ∷ t) (zeros_parts n)

record AreZeros (n : ℕ) : Type 0 where
  groups : (zero_digits n + zero_fillers n) % 4 ≡ 0
  count : zero_digits n - (zero_digits n / 4 + min 1 (zero_digits n % 4)) ≡ n

are_zeros : (n : ℕ) → AreZeros n
unfolding zero_digits zero_fillers
are_zeros zero = record { groups = refl; count = refl }
are_zeros (suc zero) = record { groups = refl; count = refl }
are_zeros (suc (suc zero)) = record { groups = refl; count = refl }
are_zeros (suc (suc (suc n))) =
    let are = are_zeros n in
    let groups = are.groups in
    let count = are.count in
    record { groups = omega (arith, groups); count = omega (arith, count) }

ending_zeros : (n : ℕ) → is_ending 65 (zero_fillers n) ≡ true
unfolding zero_fillers
ending_zeros zero = refl
ending_zeros (suc zero) = refl
ending_zeros (suc (suc zero)) = refl
ending_zeros (suc (suc (suc n))) = ending_zeros n

last_zeros : (n : ℕ) → last_from 65 (replicate n 65) ≡ 65
last_zeros zero = refl
last_zeros (suc n) = last_zeros n

-- what follows the two digits of the first octet
more_digits : ℕ → ℕ
more_digits zero = 0
more_digits (suc zero) = 1
more_digits (suc (suc n)) = suc (suc (zero_digits n))

more_fillers : ℕ → ℕ
more_fillers zero = 2
more_fillers (suc zero) = 1
more_fillers (suc (suc n)) = zero_fillers n

more_parts : (n : ℕ) → base64_more n ≡ replicate (more_digits n) 65 ++ replicate (more_fillers n) 61
unfolding more_digits more_fillers
more_parts zero = refl
more_parts (suc zero) = refl
more_parts (suc (suc n)) = ap (λ (t : List ℕ). 65 ∷ 65 ∷ t) (zeros_parts n)

more_groups : (n : ℕ) → (2 + more_digits n + more_fillers n) % 4 ≡ 0
unfolding more_digits more_fillers
more_groups zero = refl
more_groups (suc zero) = refl
more_groups (suc (suc n)) = let groups = (are_zeros n).groups in omega (arith, groups)

more_count : (n : ℕ) → (2 + more_digits n) - ((2 + more_digits n) / 4 + min 1 ((2 + more_digits n) % 4)) ≡ suc n
unfolding more_digits
more_count zero = refl
more_count (suc zero) = refl
more_count (suc (suc n)) = let count = (are_zeros n).count in omega (arith, count)

more_ending : (n last : ℕ) → is_one_of (codes "AQgw") last ≡ true → is_ending (last_from last (replicate (more_digits n) 65)) (more_fillers n) ≡ true
unfolding more_digits more_fillers
more_ending zero last right = right
more_ending (suc zero) last right = refl
more_ending (suc (suc n)) last right = rw (last_zeros (zero_digits n)) (ending_zeros n)

all_replicate : (test : ℕ → Bool) (c : ℕ) → test c ≡ true → (n : ℕ) → list_all test (replicate n c) ≡ true
all_replicate test c passes zero = refl
all_replicate test c passes (suc n) = and_from _ _ passes (all_replicate test c passes n)

digit_no_filler : (c : ℕ) → is_base64_digit c ≡ true → is_filler c ≡ false
digit_no_filler c digit = ne_eqb c 61 (λ same. false≢true (ap is_base64_digit (sym same) ∙ digit))

fillers_start : (f : ℕ) → position_or_len is_filler (replicate f 61) ≡ 0
fillers_start zero = refl
fillers_start (suc f) = refl

fillers_behind : (ds : List ℕ) (f : ℕ) → list_all is_base64_digit ds ≡ true → position_or_len is_filler (ds ++ replicate f 61) ≡ length ds
fillers_behind [] f all = fillers_start f
fillers_behind (c ∷ cs) f all =
    let parts = and_parts (is_base64_digit c) (list_all is_base64_digit cs) all in
    rw (digit_no_filler c parts.0, fillers_behind cs f parts.1) (omega arith)

digits_found : (ds : List ℕ) (f : ℕ) → list_all is_base64_digit ds ≡ true → digits_of (ds ++ replicate f 61) ≡ ds
digits_found ds f all = rw (fillers_behind ds f all) (take-append_seam ds (replicate f 61))

fillers_found : (ds : List ℕ) (f : ℕ) → list_all is_base64_digit ds ≡ true → fillers_of (ds ++ replicate f 61) ≡ replicate f 61
fillers_found ds f all = rw (fillers_behind ds f all) (drop-append_seam ds (replicate f 61))

-- the two digits of an octet
abbrev is_pair : ℕ → Bool
is_pair i =
    is_printed (base64_digit (i / 4)) && (is_printed (base64_digit (16 * (i % 4)))
    && (is_base64_digit (base64_digit (i / 4)) && (is_base64_digit (base64_digit (16 * (i % 4)))
    && (is_one_of (codes "AQgw") (base64_digit (16 * (i % 4)))
    && (base64_value (base64_digit (i / 4)) == i / 4 && base64_value (base64_digit (16 * (i % 4))) == 16 * (i % 4))))))

pairs : every 130 is_pair ≡ true
unfolding every
pairs = refl

record IsPair (i a b : ℕ) : Type 0 where
  seen : is_printed a ≡ true
  seen_too : is_printed b ≡ true
  digit : is_base64_digit a ≡ true
  digit_too : is_base64_digit b ≡ true
  ending : is_one_of (codes "AQgw") b ≡ true
  value : base64_value a ≡ i / 4
  value_too : base64_value b ≡ 16 * (i % 4)

pair_at : (i : ℕ) → i < 130 → IsPair i (base64_digit (i / 4)) (base64_digit (16 * (i % 4)))
pair_at i small =
    let all = every_at 130 i is_pair pairs small in
    let a = and_parts (is_printed (base64_digit (i / 4))) _ all in
    let b = and_parts (is_printed (base64_digit (16 * (i % 4)))) _ a.1 in
    let c = and_parts (is_base64_digit (base64_digit (i / 4))) _ b.1 in
    let d = and_parts (is_base64_digit (base64_digit (16 * (i % 4)))) _ c.1 in
    let e = and_parts (is_one_of (codes "AQgw") (base64_digit (16 * (i % 4)))) _ d.1 in
    let f = and_parts (base64_value (base64_digit (i / 4)) == i / 4) (base64_value (base64_digit (16 * (i % 4))) == 16 * (i % 4)) e.1 in
    record { seen = a.0; seen_too = b.0; digit = c.0; digit_too = d.0; ending = e.0; value = eqb-true _ (i / 4) f.0; value_too = eqb-true _ (16 * (i % 4)) f.1 }

abbrev spelled_as : ℕ → ℕ → ℕ → List ℕ
spelled_as n a b = (a ∷ b ∷ replicate (more_digits n) 65) ++ replicate (more_fillers n) 61

base64_spelled : (n i : ℕ) → candidate Base64Binary n i ≡ spelled_as n (base64_digit (i / 4)) (base64_digit (16 * (i % 4)))
base64_spelled n i = ap (λ (t : List ℕ). base64_digit (i / 4) ∷ base64_digit (16 * (i % 4)) ∷ t) (more_parts n)

pair_digits : (n i a b : ℕ) → IsPair i a b → list_all is_base64_digit (a ∷ b ∷ replicate (more_digits n) 65) ≡ true
pair_digits n i a b pair = and_from _ _ pair.digit (and_from _ _ pair.digit_too (all_replicate is_base64_digit 65 refl (more_digits n)))

pair_right : (n i a b : ℕ) → IsPair i a b → is_base64 (spelled_as n a b) ≡ true
unfolding is_base64
pair_right n i a b pair =
    let digits = pair_digits n i a b pair in
    let ds : List ℕ = a ∷ b ∷ replicate (more_digits n) 65 in
    let f : ℕ = more_fillers n in
    let long : length (ds ++ replicate f 61) ≡ 2 + more_digits n + f = length-append ds (replicate f 61) ∙ (let one = length-replicate {A = ℕ} (more_digits n) 65 in let other = length-replicate {A = ℕ} f 61 in omega (arith, one, other)) in
    and_from _ _ (eq-eqb _ 0 (ap (λ k. k % 4) long ∙ more_groups n))
    (rw (digits_found ds f digits, fillers_found ds f digits, length-replicate {A = ℕ} f 61)
    (and_from _ _ digits (and_from _ _ (all_replicate is_filler 61 refl f) (more_ending n b pair.ending))))

pair_count : (n i a b : ℕ) → IsPair i a b → length (octets_of_base64 (spelled_as n a b)) ≡ suc n
pair_count n i a b pair =
    let ds : List ℕ = a ∷ b ∷ replicate (more_digits n) 65 in
    let long : length ds ≡ 2 + more_digits n = (let one = length-replicate {A = ℕ} (more_digits n) 65 in omega (arith, one)) in
    base64_count (spelled_as n a b)
    ∙ ap (λ (t : List ℕ). length t - (length t / 4 + min 1 (length t % 4))) (digits_found ds (more_fillers n) (pair_digits n i a b pair))
    ∙ ap (λ k. k - (k / 4 + min 1 (k % 4))) long ∙ more_count n

base64_right : (n i : ℕ) → i < 130 → is_base64 (candidate Base64Binary n i) ≡ true
base64_right n i small = ap is_base64 (base64_spelled n i) ∙ pair_right n i _ _ (pair_at i small)

base64_seen : (n i : ℕ) → i < 130 → list_all is_printed (candidate Base64Binary n i) ≡ true
base64_seen n i small =
    let pair = pair_at i small in
    ap (list_all is_printed) (base64_spelled n i)
    ∙ and_from _ _ pair.seen (and_from _ _ pair.seen_too (list_all-append is_printed (replicate (more_digits n) 65) (replicate (more_fillers n) 61) ∙ and_from _ _ (all_replicate is_printed 65 refl (more_digits n)) (all_replicate is_printed 61 refl (more_fillers n))))

base64_tight : (n i : ℕ) → i < 130 → unspaced (candidate Base64Binary n i) ≡ candidate Base64Binary n i
base64_tight n i small = unspaced_bare (candidate Base64Binary n i) (bare_seen (candidate Base64Binary n i) (base64_seen n i small))

base64_counted : (n i : ℕ) → i < 130 → length (base64_octets (candidate Base64Binary n i)) ≡ suc n
base64_counted n i small =
    ap (λ (t : List ℕ). length (octets_of_base64 t)) (base64_tight n i small ∙ base64_spelled n i) ∙ pair_count n i _ _ (pair_at i small)

seconds_same : (a b x y : ℕ) (xs ys : List ℕ) → a ∷ x ∷ xs ≡ b ∷ y ∷ ys → x ≡ y
seconds_same a b x y xs ys same = cc

base64_differs : (n i j : ℕ) → i < 130 → j < 130 → base64_octets (candidate Base64Binary n i) ≡ base64_octets (candidate Base64Binary n j) → i ≡ j
base64_differs n i j hi hj same =
    let octets : octets_of_base64 (candidate Base64Binary n i) ≡ octets_of_base64 (candidate Base64Binary n j) = ap octets_of_base64 (sym (base64_tight n i hi)) ∙ same ∙ ap octets_of_base64 (base64_tight n j hj) in
    let texts = digits_same (candidate Base64Binary n i) (candidate Base64Binary n j) (base64_right n i hi) (base64_right n j hj) octets in
    let first : i / 4 ≡ j / 4 = sym (pair_at i hi).value ∙ ap base64_value (heads _ _ _ _ texts) ∙ (pair_at j hj).value in
    let second : 16 * (i % 4) ≡ 16 * (j % 4) = sym (pair_at i hi).value_too ∙ ap base64_value (seconds_same _ _ _ _ _ _ texts) ∙ (pair_at j hj).value_too in
    omega (arith, first, second)

-- the two laws
pub candidates_are_literals : CandidatesAreLiterals
candidates_are_literals Date n i small = record { some = omega arith; printed = every_at 130 i (λ i. list_all is_printed (candidate Date 0 i)) dates_seen small; accepted = record { literal = literal_at Date i; written = date_written i small }; octets = refl }
candidates_are_literals Time n i small = record { some = omega arith; printed = every_at 130 i (λ i. list_all is_printed (candidate Time 0 i)) times_seen small; accepted = record { literal = literal_at Time i; written = time_written i small }; octets = refl }
candidates_are_literals DateTime n i small = record { some = omega arith; printed = every_at 130 i (λ i. list_all is_printed (candidate DateTime 0 i)) date_times_seen small; accepted = record { literal = literal_at DateTime i; written = date_time_written i small }; octets = refl }
candidates_are_literals GYear n i small = record { some = omega arith; printed = every_at 130 i (λ i. list_all is_printed (year_from i)) years_seen small; accepted = record { literal = literal_at GYear i; written = year_written i small }; octets = refl }
candidates_are_literals GYearMonth n i small = record { some = omega arith; printed = every_at 130 i (λ i. list_all is_printed (candidate GYearMonth 0 i)) months_seen small; accepted = record { literal = literal_at GYearMonth i; written = month_written i small }; octets = refl }
candidates_are_literals HexBinary n i small = record { some = omega arith; printed = hex_seen n i small; accepted = ap is_hex (hex_tight n i small) ∙ hex_right n i small; octets = ap (λ k. Some k) (hex_counted n i small) }
candidates_are_literals Base64Binary n i small = record { some = omega arith; printed = base64_seen n i small; accepted = ap is_base64 (base64_tight n i small) ∙ base64_right n i small; octets = ap (λ k. Some k) (base64_counted n i small) }

pub candidates_differ : CandidatesDiffer
candidates_differ Date n i j hi hj same = year_differs i j hi hj (same_moments same (literal_at Date i) (literal_at Date j) (date_written i hi) (date_written j hj))
candidates_differ Time n i j hi hj same = time_differs i j hi hj (same_moments same (literal_at Time i) (literal_at Time j) (time_written i hi) (time_written j hj))
candidates_differ DateTime n i j hi hj same = date_time_differs i j hi hj (same_moments same (literal_at DateTime i) (literal_at DateTime j) (date_time_written i hi) (date_time_written j hj))
candidates_differ GYear n i j hi hj same = year_differs i j hi hj (same_moments same (literal_at GYear i) (literal_at GYear j) (year_written i hi) (year_written j hj))
candidates_differ GYearMonth n i j hi hj same = year_differs i j hi hj (same_moments same (literal_at GYearMonth i) (literal_at GYearMonth j) (month_written i hi) (month_written j hj))
candidates_differ HexBinary n i j hi hj same = hex_differs n i j hi hj same
candidates_differ Base64Binary n i j hi hj same = base64_differs n i j hi hj same
