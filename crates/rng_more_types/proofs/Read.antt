-- What is read as a moment is a literal that stands for it.
use Rattle.std.proofs.Common.{◌≡◌, ℕ, suc, ◌+◌, ◌-◌, ◌*◌, ◌/◌, ◌%◌, Bool, true, false, eqb, cond, ◌&&◌, ◌==◌, List, [], ◌∷◌, ◌++◌, length, take, drop, Option, Some, None, option_map, refl, sym, ap, ◌∙◌, arith, inl, inr}
use Rattle.std.specs.List.{prefix_len, list_all}
use Rattle.std.specs.Char.{is_ascii_digit}
use Rattle.std.specs.Str.Parse.{digits_value}
use Rattle.std.proofs.lemmas.List.{take-append-drop}
use Rattle.std.proofs.lemmas.List.Folds.{length-prefix_len}
use Rattle.std.proofs.lemmas.Bool.{and_parts, and_from, eqb-true, cases_Bool}
use Rattle.rng_more_types.specs.Calendar.{is_month, is_day, day_number}
use Rattle.rng_more_types.specs.Literals.{Year, Clock, Literal, Day, TimeOfDay, DayAndTime, WholeYear, WholeMonth, type_of, two_digits, spelled_year, spelled_fraction, spelled_minutes, spelled_clock, spelled_zone, spelled}
use Rattle.rng_more_types.specs.Literals.{is_year_number, year_in_count, count_of, is_time, is_clock, is_shift, is_zone, is_right, Moment, moment_at, within_a_day, some_day, seconds_of, seconds_of_clock, moment_of}
use Rattle.rng_more_types.specs.Reading.{two_at, two_behind, unsigned_year_at, year_at, month_at, day_at, minutes_at, fraction_at, clock_at, clock_behind, shift_of, zone_of, moment_in, date_of, time_of, date_time_of, year_of, month_of, moment_read}
use Rattle.rng_more_types.specs.declared.moment.Zone.{Zone}
use Rattle.rng_more_types.specs.declared.moment.Zone.TheVariants.{Unzoned, Utc, Ahead, Behind}
use Rattle.rng_more_types.specs.declared.more_type.MoreType.{MoreType}
use Rattle.rng_more_types.specs.declared.more_type.MoreType.TheVariants.{Date, Time, DateTime, GYear, GYearMonth, HexBinary, Base64Binary}
use Rattle.rng_more_types.proofs.Basics.{chosen, guarded, unless, bound, mapped, empty_list, some_value}
use Rattle.rng_more_types.proofs.Digits.{digit_range}

two_written : (text : List ℕ) (n : ℕ) (rest : List ℕ) → two_at text ≡ Some (n, rest) → text ≡ two_digits n ++ rest
unfolding two_at
two_written [] n rest e = absurd cc
two_written (a ∷ []) n rest e = absurd cc
two_written (a ∷ (b ∷ more)) n rest e =
    let found = chosen {A = ℕ × List ℕ} (is_ascii_digit a && is_ascii_digit b) (10 * (a - 48) + (b - 48), more) (n, rest) e in
    let digits = and_parts (is_ascii_digit a) (is_ascii_digit b) found.0 in
    let high = digit_range a digits.0 in
    let low = digit_range b digits.1 in
    let number : 10 * (a - 48) + (b - 48) ≡ n = ap (λ x. x.0) found.1 in
    let behind : more ≡ rest = ap (λ x. x.1) found.1 in
    let first : a ≡ 48 + n / 10 = omega (arith, number, high.0, high.1, low.0, low.1) in
    let second : b ≡ 48 + n % 10 = omega (arith, number, high.0, high.1, low.0, low.1) in
    cc (first, second, behind)

behind_written : (mark : ℕ) (text : List ℕ) (n : ℕ) (rest : List ℕ) → two_behind mark text ≡ Some (n, rest) → text ≡ mark ∷ (two_digits n ++ rest)
unfolding two_behind
behind_written mark [] n rest e = absurd cc
behind_written mark (c ∷ cs) n rest e =
    let found = guarded (eqb c mark) (two_at cs) (n, rest) e in
    let first = eqb-true c mark found.0 in
    let more = two_written cs n rest found.1 in
    cc (first, more)

-- the digits of a year, and what follows them
record Unsigned (negative : Bool) (text : List ℕ) (n : ℕ) (rest : List ℕ) : Type 0 where
  digits : List ℕ
  right : is_year_number digits ≡ true
  parts : text ≡ digits ++ rest
  count : year_in_count negative (digits_value 10 digits) ≡ n

unsigned_written : (negative : Bool) (text : List ℕ) (n : ℕ) (rest : List ℕ) → unsigned_year_at negative text ≡ Some (n, rest) → Unsigned negative text n rest
unfolding unsigned_year_at
unsigned_written negative text n rest e =
    let front = take (prefix_len is_ascii_digit text) text in
    let found = chosen {A = ℕ × List ℕ} (is_year_number front) (year_in_count negative (digits_value 10 front), drop (prefix_len is_ascii_digit text) text) (n, rest) e in
    let behind : drop (prefix_len is_ascii_digit text) text ≡ rest = ap (λ x. x.1) found.1 in
    record {
      digits = front;
      right = found.0;
      parts = sym (take-append-drop (prefix_len is_ascii_digit text) text) ∙ ap (λ more. front ++ more) behind;
      count = ap (λ x. x.0) found.1;
    }

record WithYear (text : List ℕ) (n : ℕ) (rest : List ℕ) : Type 0 where
  year : Year
  right : is_year_number year.digits ≡ true
  parts : text ≡ spelled_year year ++ rest
  count : count_of year ≡ n

year_by : (c : ℕ) (cs : List ℕ) (minus : Bool) (n : ℕ) (rest : List ℕ) → eqb c 45 ≡ minus → cond minus (unsigned_year_at true cs) (unsigned_year_at false (c ∷ cs)) ≡ Some (n, rest) → WithYear (c ∷ cs) n rest
year_by c cs true n rest is e =
    let found = unsigned_written true cs n rest e in
    let first = eqb-true c 45 is in
    record { year = record { negative = true; digits = found.digits }; right = found.right; parts = cc (first, found.parts); count = found.count }
year_by c cs false n rest is e =
    let found = unsigned_written false (c ∷ cs) n rest e in
    record { year = record { negative = false; digits = found.digits }; right = found.right; parts = found.parts; count = found.count }

year_written : (text : List ℕ) (n : ℕ) (rest : List ℕ) → year_at text ≡ Some (n, rest) → WithYear text n rest
unfolding year_at
year_written [] n rest e = absurd cc
year_written (c ∷ cs) n rest e = year_by c cs (eqb c 45) n rest refl e

record WithMonth (text : List ℕ) (n month : ℕ) (rest : List ℕ) : Type 0 where
  year : Year
  right : is_year_number year.digits ≡ true
  good : is_month month ≡ true
  parts : text ≡ spelled_year year ++ (45 ∷ (two_digits month ++ rest))
  count : count_of year ≡ n

month_by : (text : List ℕ) (year : ℕ × List ℕ) (month : ℕ × List ℕ) (n m : ℕ) (rest : List ℕ) → year_at text ≡ Some year → two_behind 45 year.1 ≡ Some month
    → cond {A = Option (ℕ × ℕ × List ℕ)} (is_month month.0) (Some (year.0, month.0, month.1)) None ≡ Some (n, m, rest) → WithMonth text n m rest
month_by text (y, behind) (k, more) n m rest first second e =
    let found = chosen {A = ℕ × ℕ × List ℕ} (is_month k) (y, k, more) (n, m, rest) e in
    let number : y ≡ n = ap (λ x. x.0) found.1 in
    let same : k ≡ m = ap (λ x. x.1) found.1 in
    let left : more ≡ rest = ap (λ x. x.2) found.1 in
    let one = year_written text y behind first in
    let two = behind_written 45 behind k more second in
    record {
      year = one.year;
      right = one.right;
      good = ap is_month (sym same) ∙ found.0;
      parts = one.parts ∙ ap (λ x. spelled_year one.year ++ x) (two ∙ ap (λ x. 45 ∷ (two_digits x ++ more)) same ∙ ap (λ x. 45 ∷ (two_digits m ++ x)) left);
      count = one.count ∙ number;
    }

month_written : (text : List ℕ) (n m : ℕ) (rest : List ℕ) → month_at text ≡ Some (n, m, rest) → WithMonth text n m rest
unfolding month_at
month_written text n m rest e =
    let one = bound {A = ℕ × List ℕ} {B = ℕ × ℕ × List ℕ} _ (year_at text) (n, m, rest) e in
    let two = bound {A = ℕ × List ℕ} {B = ℕ × ℕ × List ℕ} _ (two_behind 45 one.0.1) (n, m, rest) one.2 in
    month_by text one.0 two.0 n m rest one.1 two.1 two.2

record WithDay (text : List ℕ) (n : ℕ) (rest : List ℕ) : Type 0 where
  year : Year
  month : ℕ
  day : ℕ
  right : is_year_number year.digits ≡ true
  good : is_month month ≡ true
  there : is_day (count_of year) month day ≡ true
  parts : text ≡ spelled_year year ++ (45 ∷ (two_digits month ++ (45 ∷ (two_digits day ++ rest))))
  count : day_number (count_of year) month day ≡ n

day_by : (text : List ℕ) (month : ℕ × ℕ × List ℕ) (day : ℕ × List ℕ) (n : ℕ) (rest : List ℕ) → month_at text ≡ Some month → two_behind 45 month.2 ≡ Some day
    → cond {A = Option (ℕ × List ℕ)} (is_day month.0 month.1 day.0) (Some (day_number month.0 month.1 day.0, day.1)) None ≡ Some (n, rest) → WithDay text n rest
day_by text (y, m, behind) (d, more) n rest first second e =
    let found = chosen {A = ℕ × List ℕ} (is_day y m d) (day_number y m d, more) (n, rest) e in
    let number : day_number y m d ≡ n = ap (λ x. x.0) found.1 in
    let left : more ≡ rest = ap (λ x. x.1) found.1 in
    let one = month_written text y m behind first in
    let two = behind_written 45 behind d more second in
    record {
      year = one.year;
      month = m;
      day = d;
      right = one.right;
      good = one.good;
      there = ap (λ x. is_day x m d) one.count ∙ found.0;
      parts = one.parts ∙ ap (λ x. spelled_year one.year ++ (45 ∷ (two_digits m ++ x))) (two ∙ ap (λ x. 45 ∷ (two_digits d ++ x)) left);
      count = ap (λ x. day_number x m d) one.count ∙ number;
    }

day_written : (text : List ℕ) (n : ℕ) (rest : List ℕ) → day_at text ≡ Some (n, rest) → WithDay text n rest
unfolding day_at
day_written text n rest e =
    let one = bound {A = ℕ × ℕ × List ℕ} {B = ℕ × List ℕ} _ (month_at text) (n, rest) e in
    let two = bound {A = ℕ × List ℕ} {B = ℕ × List ℕ} _ (two_behind 45 one.0.2) (n, rest) one.2 in
    day_by text one.0 two.0 n rest one.1 two.1 two.2

minutes_by : (text : List ℕ) (hour minute : ℕ × List ℕ) (h m : ℕ) (rest : List ℕ) → two_at text ≡ Some hour → two_behind 58 hour.1 ≡ Some minute
    → hour.0 ≡ h → minute.0 ≡ m → minute.1 ≡ rest → text ≡ spelled_minutes h m ++ rest
minutes_by text (a, behind) (b, more) h m rest first second same even left =
    let one = two_written text a behind first in
    let two = behind_written 58 behind b more second in
    one ∙ ap (λ x. two_digits a ++ x) (two ∙ ap (λ x. 58 ∷ (two_digits x ++ more)) even ∙ ap (λ x. 58 ∷ (two_digits m ++ x)) left) ∙ ap (λ x. spelled_minutes x m ++ rest) same

minutes_written : (text : List ℕ) (h m : ℕ) (rest : List ℕ) → minutes_at text ≡ Some (h, m, rest) → text ≡ spelled_minutes h m ++ rest
unfolding minutes_at
minutes_written text h m rest e =
    let one = bound {A = ℕ × List ℕ} {B = ℕ × ℕ × List ℕ} _ (two_at text) (h, m, rest) e in
    let two = bound {A = ℕ × List ℕ} {B = ℕ × ℕ × List ℕ} _ (two_behind 58 one.0.1) (h, m, rest) one.2 in
    let three = some_value {A = ℕ × ℕ × List ℕ} (one.0.0, two.0.0, two.0.1) (h, m, rest) two.2 in
    minutes_by text one.0 two.0 h m rest one.1 two.1 (ap (λ x. x.0) three) (ap (λ x. x.1) three) (ap (λ x. x.2) three)

-- digits behind a point, at least one
some_fraction : (digits : List ℕ) → eqb (length digits) 0 ≡ false → 46 ∷ digits ≡ spelled_fraction digits
some_fraction [] none = absurd cc
some_fraction (c ∷ cs) some = refl

front_digits : (text : List ℕ) → list_all is_ascii_digit (take (prefix_len is_ascii_digit text) text) ≡ true
front_digits [] = refl
front_digits (c ∷ cs) = elim (cases_Bool (is_ascii_digit c)) [
  | inl digit ↦ let one : 1 + prefix_len is_ascii_digit cs ≡ suc (prefix_len is_ascii_digit cs) = omega arith in rw (digit, one) (and_from (is_ascii_digit c) _ digit (front_digits cs))
  | inr other ↦ rw other refl
]

fraction_by : (c : ℕ) (cs : List ℕ) (point : Bool) (digits rest : List ℕ) → eqb c 46 ≡ point
    → cond {A = Option (List ℕ × List ℕ)} point (cond {A = Option (List ℕ × List ℕ)} (eqb (prefix_len is_ascii_digit cs) 0) None (Some (take (prefix_len is_ascii_digit cs) cs, drop (prefix_len is_ascii_digit cs) cs))) (Some ([], c ∷ cs)) ≡ Some (digits, rest)
    → (c ∷ cs ≡ spelled_fraction digits ++ rest) × (list_all is_ascii_digit digits ≡ true)
fraction_by c cs true digits rest is e =
    let count = prefix_len is_ascii_digit cs in
    let found = unless {A = List ℕ × List ℕ} (eqb count 0) (Some (take count cs, drop count cs)) (digits, rest) e in
    let both = some_value {A = List ℕ × List ℕ} (take count cs, drop count cs) (digits, rest) found.1 in
    let front : take count cs ≡ digits = ap (λ x. x.0) both in
    let behind : drop count cs ≡ rest = ap (λ x. x.1) both in
    let long : length digits ≡ count = ap length (sym front) ∙ length-prefix_len is_ascii_digit cs in
    let point = eqb-true c 46 is in (
      ap (λ x. x ∷ cs) point ∙ ap (λ x. 46 ∷ x) (sym (take-append-drop count cs) ∙ ap (λ x. x ++ drop count cs) front ∙ ap (λ x. digits ++ x) behind)
          ∙ ap (λ x. x ++ rest) (some_fraction digits (ap (λ n. eqb n 0) long ∙ found.0)),
      ap (list_all is_ascii_digit) (sym front) ∙ front_digits cs,
    )
fraction_by c cs false digits rest is e =
    let both = some_value {A = List ℕ × List ℕ} ([], c ∷ cs) (digits, rest) e in
    let none : [] ≡ digits = ap (λ x. x.0) both in
    let left : c ∷ cs ≡ rest = ap (λ x. x.1) both in
    (left ∙ ap (λ x. spelled_fraction x ++ rest) none, ap (list_all is_ascii_digit) (sym none))

fraction_written : (text digits rest : List ℕ) → fraction_at text ≡ Some (digits, rest) → (text ≡ spelled_fraction digits ++ rest) × (list_all is_ascii_digit digits ≡ true)
unfolding fraction_at
fraction_written [] digits rest e =
    let both = some_value {A = List ℕ × List ℕ} ([], []) (digits, rest) e in
    let none : [] ≡ digits = ap (λ x. x.0) both in
    let left : [] ≡ rest = ap (λ x. x.1) both in
    (left ∙ ap (λ x. spelled_fraction x ++ rest) none, ap (list_all is_ascii_digit) (sym none))
fraction_written (c ∷ cs) digits rest e = fraction_by c cs (eqb c 46) digits rest refl e

record WithClock (text : List ℕ) (seconds : ℕ) (fraction rest : List ℕ) : Type 0 where
  clock : Clock
  right : is_clock clock ≡ true
  parts : text ≡ spelled_clock clock ++ rest
  count : seconds_of_clock clock ≡ seconds
  digits : clock.fraction ≡ fraction

-- all parts of a clock, and what follows them
spelled_parts : (h m s : ℕ) (fraction rest : List ℕ) → spelled_minutes h m ++ (58 ∷ (two_digits s ++ (spelled_fraction fraction ++ rest))) ≡ spelled_clock (record { hour = h; minute = m; second = s; fraction = fraction }) ++ rest
spelled_parts h m s fraction rest = refl

clock_right : (h m s : ℕ) (fraction : List ℕ) → is_time h m s fraction ≡ true → list_all is_ascii_digit fraction ≡ true → is_clock (record { hour = h; minute = m; second = s; fraction = fraction }) ≡ true
unfolding is_clock
clock_right h m s fraction time digits = and_from _ _ time digits

clock_by : (text : List ℕ) (minutes : ℕ × ℕ × List ℕ) (second : ℕ × List ℕ) (part : List ℕ × List ℕ) (seconds : ℕ) (fraction rest : List ℕ)
    → minutes_at text ≡ Some minutes → two_behind 58 minutes.2 ≡ Some second → fraction_at second.1 ≡ Some part
    → cond {A = Option (ℕ × List ℕ × List ℕ)} (is_time minutes.0 minutes.1 second.0 part.0) (Some (seconds_of minutes.0 minutes.1 + second.0, part.0, part.1)) None ≡ Some (seconds, fraction, rest) → WithClock text seconds fraction rest
clock_by text (h, m, behind) (s, more) (digits, left) seconds fraction rest first second third e =
    let found = chosen {A = ℕ × List ℕ × List ℕ} (is_time h m s digits) (seconds_of h m + s, digits, left) (seconds, fraction, rest) e in
    let number : seconds_of h m + s ≡ seconds = ap (λ x. x.0) found.1 in
    let same : digits ≡ fraction = ap (λ x. x.1) found.1 in
    let end : left ≡ rest = ap (λ x. x.2) found.1 in
    let one = minutes_written text h m behind first in
    let two = behind_written 58 behind s more second in
    let three = fraction_written more digits left third in
    record {
      clock = record { hour = h; minute = m; second = s; fraction = digits };
      right = clock_right h m s digits found.0 three.1;
      parts = one ∙ ap (λ x. spelled_minutes h m ++ x) (two ∙ ap (λ x. 58 ∷ (two_digits s ++ x)) (three.0 ∙ ap (λ x. spelled_fraction digits ++ x) end)) ∙ spelled_parts h m s digits rest;
      count = number;
      digits = same;
    }

clock_written : (text : List ℕ) (seconds : ℕ) (fraction rest : List ℕ) → clock_at text ≡ Some (seconds, fraction, rest) → WithClock text seconds fraction rest
unfolding clock_at
clock_written text seconds fraction rest e =
    let one = bound {A = ℕ × ℕ × List ℕ} {B = ℕ × List ℕ × List ℕ} _ (minutes_at text) (seconds, fraction, rest) e in
    let two = bound {A = ℕ × List ℕ} {B = ℕ × List ℕ × List ℕ} _ (two_behind 58 one.0.2) (seconds, fraction, rest) one.2 in
    let three = bound {A = List ℕ × List ℕ} {B = ℕ × List ℕ × List ℕ} _ (fraction_at two.0.1) (seconds, fraction, rest) two.2 in
    clock_by text one.0 two.0 three.0 seconds fraction rest one.1 two.1 three.1 three.2

clock_behind_written : (text : List ℕ) (seconds : ℕ) (fraction rest : List ℕ) → clock_behind text ≡ Some (seconds, fraction, rest) → (more : List ℕ) × (text ≡ 84 ∷ more) × WithClock more seconds fraction rest
unfolding clock_behind
clock_behind_written [] seconds fraction rest e = absurd cc
clock_behind_written (c ∷ cs) seconds fraction rest e =
    let found = guarded (eqb c 84) (clock_at cs) (seconds, fraction, rest) e in
    (cs, ap (λ x. x ∷ cs) (eqb-true c 84 found.0), clock_written cs seconds fraction rest found.1)

shift_by : (text : List ℕ) (found : ℕ × ℕ × List ℕ) (h m : ℕ) → minutes_at text ≡ Some found → cond {A = Option (ℕ × ℕ)} (is_shift found.0 found.1 && (length found.2 == 0)) (Some (found.0, found.1)) None ≡ Some (h, m) → (text ≡ spelled_minutes h m) × (is_shift h m ≡ true)
shift_by text (a, b, rest) h m first e =
    let found = chosen {A = ℕ × ℕ} (is_shift a b && (length rest == 0)) (a, b) (h, m) e in
    let tests = and_parts (is_shift a b) (eqb (length rest) 0) found.0 in
    let same : a ≡ h = ap (λ x. x.0) found.1 in
    let even : b ≡ m = ap (λ x. x.1) found.1 in
    let none = empty_list rest (eqb-true (length rest) 0 tests.1) in (
      minutes_written text a b rest first ∙ ap (λ x. spelled_minutes a b ++ x) none ∙ ap (λ x. spelled_minutes x b) same ∙ ap (λ x. spelled_minutes h x) even,
      ap (λ x. is_shift x m) (sym same) ∙ ap (λ x. is_shift a x) (sym even) ∙ tests.0,
    )

shift_written : (text : List ℕ) (shift : ℕ × ℕ) → shift_of text ≡ Some shift → (text ≡ spelled_minutes shift.0 shift.1) × (is_shift shift.0 shift.1 ≡ true)
unfolding shift_of
shift_written text (h, m) e =
    let one = bound {A = ℕ × ℕ × List ℕ} {B = ℕ × ℕ} _ (minutes_at text) (h, m) e in
    shift_by text one.0 h m one.1 one.2

record IsZone (text : List ℕ) (zone : Zone) : Type 0 where
  right : is_zone zone ≡ true
  parts : text ≡ spelled_zone zone

shifted : (c mark : ℕ) (cs : List ℕ) (zone made : Zone) (shift : ℕ × ℕ) → eqb c mark ≡ true → shift_of cs ≡ Some shift → made ≡ zone
    → (is_shift shift.0 shift.1 ≡ true → is_zone made ≡ true) → (mark ∷ spelled_minutes shift.0 shift.1 ≡ spelled_zone made) → IsZone (c ∷ cs) zone
shifted c mark cs zone made shift first found same right spelled =
    let written = shift_written cs shift found in
    record {
      right = ap is_zone (sym same) ∙ right written.1;
      parts = ap (λ x. x ∷ cs) (eqb-true c mark first) ∙ ap (λ x. mark ∷ x) written.0 ∙ spelled ∙ ap spelled_zone same;
    }

zone_minus : (c : ℕ) (cs : List ℕ) (minus : Bool) (zone : Zone) → eqb c 45 ≡ minus
    → cond minus (option_map (λ shift. Behind shift.0 shift.1) (shift_of cs)) None ≡ Some zone → IsZone (c ∷ cs) zone
zone_minus c cs true zone is e =
    let found = mapped {A = ℕ × ℕ} {B = Zone} (λ shift. Behind shift.0 shift.1) (shift_of cs) zone e in
    shifted c 45 cs zone (Behind found.0.0 found.0.1) found.0 is found.1 found.2 (λ right. right) refl
zone_minus c cs false zone is e = absurd cc

zone_plus : (c : ℕ) (cs : List ℕ) (plus : Bool) (zone : Zone) → eqb c 43 ≡ plus
    → cond plus (option_map (λ shift. Ahead shift.0 shift.1) (shift_of cs)) (cond (eqb c 45) (option_map (λ shift. Behind shift.0 shift.1) (shift_of cs)) None) ≡ Some zone → IsZone (c ∷ cs) zone
zone_plus c cs true zone is e =
    let found = mapped {A = ℕ × ℕ} {B = Zone} (λ shift. Ahead shift.0 shift.1) (shift_of cs) zone e in
    shifted c 43 cs zone (Ahead found.0.0 found.0.1) found.0 is found.1 found.2 (λ right. right) refl
zone_plus c cs false zone is e = zone_minus c cs (eqb c 45) zone refl e

zone_utc : (c : ℕ) (cs : List ℕ) (utc : Bool) (zone : Zone) → eqb c 90 ≡ utc
    → cond utc (cond (eqb (length cs) 0) (Some Utc) None) (cond (eqb c 43) (option_map (λ shift. Ahead shift.0 shift.1) (shift_of cs)) (cond (eqb c 45) (option_map (λ shift. Behind shift.0 shift.1) (shift_of cs)) None)) ≡ Some zone → IsZone (c ∷ cs) zone
zone_utc c cs true zone is e =
    let found = chosen (eqb (length cs) 0) Utc zone e in
    record {
      right = ap is_zone (sym found.1);
      parts = ap (λ x. x ∷ cs) (eqb-true c 90 is) ∙ ap (λ x. 90 ∷ x) (empty_list cs (eqb-true (length cs) 0 found.0)) ∙ ap spelled_zone found.1;
    }
zone_utc c cs false zone is e = zone_plus c cs (eqb c 43) zone refl e

zone_written : (text : List ℕ) (zone : Zone) → zone_of text ≡ Some zone → IsZone text zone
unfolding zone_of
zone_written [] zone e = let same : Unzoned ≡ zone = cc in record { right = ap is_zone (sym same); parts = ap spelled_zone same }
zone_written (c ∷ cs) zone e = zone_utc c cs (eqb c 90) zone refl e

-- the zone that is left, and the moment in it
record InZone (day seconds : ℕ) (fraction rest : List ℕ) (moment : Moment) : Type 0 where
  zone : Zone
  is : IsZone rest zone
  told : moment_at day seconds fraction zone ≡ moment

moment_written : (day seconds : ℕ) (fraction rest : List ℕ) (moment : Moment) → moment_in day seconds fraction rest ≡ Some moment → InZone day seconds fraction rest moment
unfolding moment_in
moment_written day seconds fraction rest moment e =
    let found = mapped (λ zone. moment_at day seconds fraction zone) (zone_of rest) moment e in
    record { zone = found.0; is = zone_written rest found.0 found.1; told = found.2 }

-- a literal that a whole text is
pub record Stands (type : MoreType) (text : List ℕ) (moment : Moment) : Type 0 where
  pub literal : Literal
  pub kind : type_of literal ≡ type
  pub right : is_right literal ≡ true
  pub parts : text ≡ spelled literal
  pub told : moment_of literal ≡ moment

date_by : (text : List ℕ) (day : ℕ × List ℕ) (moment : Moment) → day_at text ≡ Some day → moment_in day.0 0 [] day.1 ≡ Some moment → Stands Date text moment
date_by text (n, rest) moment first second =
    let one = day_written text n rest first in
    let two = moment_written n 0 [] rest moment second in
    record {
      literal = Day one.year one.month one.day two.zone;
      kind = refl;
      right = and_from _ _ one.right (and_from _ _ one.good (and_from _ _ one.there two.is.right));
      parts = one.parts ∙ ap (λ x. spelled_year one.year ++ (45 ∷ (two_digits one.month ++ (45 ∷ (two_digits one.day ++ x))))) two.is.parts;
      told = ap (λ x. moment_at x 0 [] two.zone) one.count ∙ two.told;
    }

date_written : (text : List ℕ) (moment : Moment) → date_of text ≡ Some moment → Stands Date text moment
unfolding date_of
date_written text moment e =
    let one = bound {A = ℕ × List ℕ} {B = Moment} _ (day_at text) moment e in
    date_by text one.0 moment one.1 one.2

time_by : (text : List ℕ) (clock : ℕ × List ℕ × List ℕ) (moment : Moment) → clock_at text ≡ Some clock → option_map (λ x. within_a_day x) (moment_in some_day clock.0 clock.1 clock.2) ≡ Some moment → Stands Time text moment
time_by text (seconds, fraction, rest) moment first second =
    let found = mapped (λ x. within_a_day x) (moment_in some_day seconds fraction rest) moment second in
    let one = clock_written text seconds fraction rest first in
    let two = moment_written some_day seconds fraction rest found.0 found.1 in
    record {
      literal = TimeOfDay one.clock two.zone;
      kind = refl;
      right = and_from _ _ one.right two.is.right;
      parts = one.parts ∙ ap (λ x. spelled_clock one.clock ++ x) two.is.parts;
      told = ap (λ x. within_a_day (moment_at some_day x one.clock.fraction two.zone)) one.count ∙ ap (λ x. within_a_day (moment_at some_day seconds x two.zone)) one.digits ∙ ap (λ x. within_a_day x) two.told ∙ found.2;
    }

time_written : (text : List ℕ) (moment : Moment) → time_of text ≡ Some moment → Stands Time text moment
unfolding time_of
time_written text moment e =
    let one = bound {A = ℕ × List ℕ × List ℕ} {B = Moment} _ (clock_at text) moment e in
    time_by text one.0 moment one.1 one.2

date_time_by : (text : List ℕ) (day : ℕ × List ℕ) (clock : ℕ × List ℕ × List ℕ) (moment : Moment) → day_at text ≡ Some day → clock_behind day.1 ≡ Some clock → moment_in day.0 clock.0 clock.1 clock.2 ≡ Some moment → Stands DateTime text moment
date_time_by text (n, behind) (seconds, fraction, rest) moment first second third =
    let one = day_written text n behind first in
    let two = clock_behind_written behind seconds fraction rest second in
    let three = moment_written n seconds fraction rest moment third in
    record {
      literal = DayAndTime one.year one.month one.day two.2.clock three.zone;
      kind = refl;
      right = and_from _ _ one.right (and_from _ _ one.good (and_from _ _ one.there (and_from _ _ two.2.right three.is.right)));
      parts = one.parts ∙ ap (λ x. spelled_year one.year ++ (45 ∷ (two_digits one.month ++ (45 ∷ (two_digits one.day ++ x))))) (two.1 ∙ ap (λ x. 84 ∷ x) (two.2.parts ∙ ap (λ x. spelled_clock two.2.clock ++ x) three.is.parts));
      told = ap (λ x. moment_at x (seconds_of_clock two.2.clock) two.2.clock.fraction three.zone) one.count ∙ ap (λ x. moment_at n x two.2.clock.fraction three.zone) two.2.count ∙ ap (λ x. moment_at n seconds x three.zone) two.2.digits ∙ three.told;
    }

date_time_written : (text : List ℕ) (moment : Moment) → date_time_of text ≡ Some moment → Stands DateTime text moment
unfolding date_time_of
date_time_written text moment e =
    let one = bound {A = ℕ × List ℕ} {B = Moment} _ (day_at text) moment e in
    let two = bound {A = ℕ × List ℕ × List ℕ} {B = Moment} _ (clock_behind one.0.1) moment one.2 in
    date_time_by text one.0 two.0 moment one.1 two.1 two.2

whole_year_by : (text : List ℕ) (year : ℕ × List ℕ) (moment : Moment) → year_at text ≡ Some year → moment_in (day_number year.0 1 1) 0 [] year.1 ≡ Some moment → Stands GYear text moment
whole_year_by text (n, rest) moment first second =
    let one = year_written text n rest first in
    let two = moment_written (day_number n 1 1) 0 [] rest moment second in
    record {
      literal = WholeYear one.year two.zone;
      kind = refl;
      right = and_from _ _ one.right two.is.right;
      parts = one.parts ∙ ap (λ x. spelled_year one.year ++ x) two.is.parts;
      told = ap (λ x. moment_at (day_number x 1 1) 0 [] two.zone) one.count ∙ two.told;
    }

whole_year_written : (text : List ℕ) (moment : Moment) → year_of text ≡ Some moment → Stands GYear text moment
unfolding year_of
whole_year_written text moment e =
    let one = bound {A = ℕ × List ℕ} {B = Moment} _ (year_at text) moment e in
    whole_year_by text one.0 moment one.1 one.2

whole_month_by : (text : List ℕ) (month : ℕ × ℕ × List ℕ) (moment : Moment) → month_at text ≡ Some month → moment_in (day_number month.0 month.1 1) 0 [] month.2 ≡ Some moment → Stands GYearMonth text moment
whole_month_by text (n, m, rest) moment first second =
    let one = month_written text n m rest first in
    let two = moment_written (day_number n m 1) 0 [] rest moment second in
    record {
      literal = WholeMonth one.year m two.zone;
      kind = refl;
      right = and_from _ _ one.right (and_from _ _ one.good two.is.right);
      parts = one.parts ∙ ap (λ x. spelled_year one.year ++ (45 ∷ (two_digits m ++ x))) two.is.parts;
      told = ap (λ x. moment_at (day_number x m 1) 0 [] two.zone) one.count ∙ two.told;
    }

whole_month_written : (text : List ℕ) (moment : Moment) → month_of text ≡ Some moment → Stands GYearMonth text moment
unfolding month_of
whole_month_written text moment e =
    let one = bound {A = ℕ × ℕ × List ℕ} {B = Moment} _ (month_at text) moment e in
    whole_month_by text one.0 moment one.1 one.2

pub literal_written : (type : MoreType) (text : List ℕ) (moment : Moment) → moment_read type text ≡ Some moment → Stands type text moment
literal_written Date text moment e = date_written text moment e
literal_written Time text moment e = time_written text moment e
literal_written DateTime text moment e = date_time_written text moment e
literal_written GYear text moment e = whole_year_written text moment e
literal_written GYearMonth text moment e = whole_month_written text moment e
literal_written HexBinary text moment e = absurd cc
literal_written Base64Binary text moment e = absurd cc
