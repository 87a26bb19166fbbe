-- White space at the ends and inside of texts.
use Rattle.std.proofs.Common.{◌≡◌, ℕ, ◌+◌, ◌/◌, ◌%◌, ◌≤◌, Bool, true, false, ◌&&◌, ◌||◌, ◌==◌, eqb, cond, if◌then◌else◌, List, [], ◌∷◌, ◌++◌, length, drop, Some, refl, sym, ap, ◌∙◌, arith, inl, inr, append-nil}
use Rattle.std.specs.Prelude.{nat_le, is_some}
use Rattle.std.specs.List.{list_all, prefix_len}
use Rattle.std.specs.Int.{is_in_range}
use Rattle.std.specs.Char.{is_ascii_digit, is_ascii_hexdigit}
use Rattle.std.proofs.lemmas.List.Elements.{filter-append}
use Rattle.std.proofs.lemmas.List.Folds.{list_all-append}
use Rattle.std.proofs.lemmas.Bool.{and_parts, and_from, or_cases, cases_Bool, leb-true, le-leb, ne_eqb, eqb-true}
use Rattle.rng_more_types.specs.Spaces.{is_space, is_no_space, is_blank, without_trailing, trimmed, unspaced}
use Rattle.rng_more_types.specs.Literals.{Year, Clock, Literal, Day, TimeOfDay, DayAndTime, WholeYear, WholeMonth, two_digits, spelled_year, spelled_fraction, spelled_clock, spelled_zone, spelled, is_right, is_year_number, count_of, is_clock, is_zone}
use Rattle.rng_more_types.specs.Calendar.{is_month as is_month_number, is_day}
use Rattle.rng_more_types.specs.Octets.{is_hex, octets_of_hex, is_base64, octets_of_base64}
use Rattle.rng_more_types.specs.Reading.{moment_read}
use Rattle.rng_more_types.specs.MoreTypes.{IsMoment, AreSameMoment}
use Rattle.rng_more_types.specs.Laws.{UnspacedIsSame, EndsDontMatter}
use Rattle.rng_more_types.specs.declared.moment.Zone.{Zone}
use Rattle.rng_more_types.specs.declared.moment.Zone.TheVariants.{Unzoned, Utc, Ahead, Behind}
use Rattle.rng_more_types.specs.declared.more_type.MoreType.{MoreType}
use Rattle.rng_more_types.specs.declared.more_type.MoreType.TheVariants.{Date, Time, DateTime, GYear, GYearMonth, HexBinary, Base64Binary}
use Rattle.rng_more_types.proofs.Basics.{empty_list}
use Rattle.rng_more_types.proofs.Digits.{digit_range}
use Rattle.rng_more_types.proofs.Unspaced.{drop_pass, drop_fail, space_gone, other_kept}
use Rattle.rng_more_types.proofs.Hex.{hex_parts}
use Rattle.rng_more_types.proofs.Blank.{skipped_blank, unspaced_blank}
use Rattle.rng_more_types.proofs.Written.{year_digits, clock_parts}

abbrev skipped : List ℕ → List ℕ
skipped text = drop (prefix_len is_space text) text

-- ---- at the ends

blank_trailing : (xs : List ℕ) → is_blank xs ≡ true → without_trailing is_space xs ≡ []
blank_trailing [] blank = refl
blank_trailing (c ∷ cs) blank =
    let parts = and_parts (is_space c) (is_blank cs) blank in
    rw (parts.0, blank_trailing cs parts.1) refl

stripped_same : (c : ℕ) (a b : List ℕ) → a ≡ b → (if is_space c && length a == 0 then [] else c ∷ a) ≡ (if is_space c && length b == 0 then [] else c ∷ b)
stripped_same c a b same = rw same refl

trailing_behind : (xs right : List ℕ) → is_blank right ≡ true → without_trailing is_space (xs ++ right) ≡ without_trailing is_space xs
trailing_behind [] right blank = blank_trailing right blank
trailing_behind (c ∷ cs) right blank = stripped_same c _ _ (trailing_behind cs right blank)

skipped_before : (left text : List ℕ) → is_blank left ≡ true → skipped (left ++ text) ≡ skipped text
skipped_before [] text blank = refl
skipped_before (c ∷ cs) text blank =
    let parts = and_parts (is_space c) (is_blank cs) blank in
    drop_pass is_space c (cs ++ text) parts.0 ∙ skipped_before cs text parts.1

skipped_behind : (text right : List ℕ) → is_blank right ≡ true → without_trailing is_space (skipped (text ++ right)) ≡ without_trailing is_space (skipped text)
skipped_behind [] right blank = ap (without_trailing is_space) (skipped_blank right blank)
skipped_behind (c ∷ cs) right blank =
    elim (cases_Bool (is_space c)) [
      | inl space ↦ ap (without_trailing is_space) (drop_pass is_space c (cs ++ right) space) ∙ skipped_behind cs right blank ∙ sym (ap (without_trailing is_space) (drop_pass is_space c cs space))
      | inr other ↦ ap (without_trailing is_space) (drop_fail is_space c (cs ++ right) other) ∙ trailing_behind (c ∷ cs) right blank ∙ sym (ap (without_trailing is_space) (drop_fail is_space c cs other))
    ]

pub trimmed_ends : (left text right : List ℕ) → is_blank left ≡ true → is_blank right ≡ true → trimmed (left ++ text ++ right) ≡ trimmed text
unfolding trimmed
trimmed_ends left text right before behind = skipped_behind (left ++ text) right behind ∙ ap (without_trailing is_space) (skipped_before left text before)

unspaced_ends : (left text right : List ℕ) → is_blank left ≡ true → is_blank right ≡ true → unspaced (left ++ text ++ right) ≡ unspaced text
unspaced_ends left text right before behind =
    filter-append is_no_space (left ++ text) right ∙ ap (λ x. x ++ unspaced right) (filter-append is_no_space left text) ∙ ap (λ x. x ++ unspaced text ++ unspaced right) (unspaced_blank left before)
    ∙ ap (λ x. unspaced text ++ x) (unspaced_blank right behind) ∙ append-nil (unspaced text)

pub ends_dont_matter : EndsDontMatter
ends_dont_matter Date left text right before behind = let same = trimmed_ends left text right before behind in (ap (λ t. is_some (moment_read Date t)) same, refl)
ends_dont_matter Time left text right before behind = let same = trimmed_ends left text right before behind in (ap (λ t. is_some (moment_read Time t)) same, refl)
ends_dont_matter DateTime left text right before behind = let same = trimmed_ends left text right before behind in (ap (λ t. is_some (moment_read DateTime t)) same, refl)
ends_dont_matter GYear left text right before behind = let same = trimmed_ends left text right before behind in (ap (λ t. is_some (moment_read GYear t)) same, refl)
ends_dont_matter GYearMonth left text right before behind = let same = trimmed_ends left text right before behind in (ap (λ t. is_some (moment_read GYearMonth t)) same, refl)
ends_dont_matter HexBinary left text right before behind = let same = trimmed_ends left text right before behind in (ap is_hex same, ap (λ t. Some (length (octets_of_hex t))) same)
ends_dont_matter Base64Binary left text right before behind = let same = unspaced_ends left text right before behind in (ap is_base64 same, ap (λ t. Some (length (octets_of_base64 t))) same)

-- ---- texts that have none

-- each character can be seen
abbrev pub is_dark : ℕ → Bool
is_dark c = nat_le 33 c

pub dark_other : (c : ℕ) → is_dark c ≡ true → is_space c ≡ false
dark_other c dark =
    let high = leb-true 33 c dark in
    rw (ne_eqb c 32 (λ e. absurd (omega (arith, high, e))), ne_eqb c 9 (λ e. absurd (omega (arith, high, e))), ne_eqb c 10 (λ e. absurd (omega (arith, high, e))), ne_eqb c 13 (λ e. absurd (omega (arith, high, e)))) refl

pub dark_unspaced : (xs : List ℕ) → list_all is_dark xs ≡ true → unspaced xs ≡ xs
dark_unspaced [] dark = refl
dark_unspaced (c ∷ cs) dark =
    let parts = and_parts (is_dark c) (list_all is_dark cs) dark in
    other_kept c cs (dark_other c parts.0) ∙ ap (λ x. c ∷ x) (dark_unspaced cs parts.1)

dark_trailing : (xs : List ℕ) → list_all is_dark xs ≡ true → without_trailing is_space xs ≡ xs
dark_trailing [] dark = refl
dark_trailing (c ∷ cs) dark =
    let parts = and_parts (is_dark c) (list_all is_dark cs) dark in
    rw (dark_other c parts.0) (ap (λ x. c ∷ x) (dark_trailing cs parts.1))

pub dark_trimmed : (xs : List ℕ) → list_all is_dark xs ≡ true → trimmed xs ≡ xs
unfolding trimmed
dark_trimmed [] dark = refl
dark_trimmed (c ∷ cs) dark =
    let first = dark_other c (and_parts (is_dark c) (list_all is_dark cs) dark).0 in
    ap (without_trailing is_space) (drop_fail is_space c cs first) ∙ dark_trailing (c ∷ cs) dark

unspaced_trailing : (xs : List ℕ) → unspaced (without_trailing is_space xs) ≡ unspaced xs
unspaced_trailing [] = refl
unspaced_trailing (c ∷ cs) =
    elim (cases_Bool (is_space c)) [
      | inl space ↦ elim (cases_Bool (eqb (length (without_trailing is_space cs)) 0)) [
        | inl none ↦ rw (space, none) (sym (ap unspaced (empty_list (without_trailing is_space cs) (eqb-true (length (without_trailing is_space cs)) 0 none))) ∙ unspaced_trailing cs)
        | inr some ↦ rw (space, some) (space_gone c (without_trailing is_space cs) space ∙ unspaced_trailing cs)
      ]
      | inr other ↦ rw other (other_kept c (without_trailing is_space cs) other ∙ ap (λ x. c ∷ x) (unspaced_trailing cs))
    ]

skipped_same : (text : List ℕ) → unspaced (skipped text) ≡ unspaced text
skipped_same [] = refl
skipped_same (c ∷ cs) =
    elim (cases_Bool (is_space c)) [
      | inl space ↦ ap unspaced (drop_pass is_space c cs space) ∙ skipped_same cs ∙ sym (space_gone c cs space)
      | inr other ↦ ap unspaced (drop_fail is_space c cs other)
    ]

unspaced_trimmed : (text : List ℕ) → unspaced (trimmed text) ≡ unspaced text
unfolding trimmed
unspaced_trimmed text = unspaced_trailing (skipped text) ∙ skipped_same text

-- where only the ends have white space, a text without white space is the same without that at its ends
pub unspaced_is_trimmed : (text : List ℕ) → list_all is_dark (trimmed text) ≡ true → trimmed (unspaced text) ≡ trimmed text
unspaced_is_trimmed text dark =
    let same : unspaced text ≡ trimmed text = sym (unspaced_trimmed text) ∙ dark_unspaced (trimmed text) dark in
    ap trimmed same ∙ dark_trimmed (trimmed text) dark

unspaced_twice : (text : List ℕ) → unspaced (unspaced text) ≡ unspaced text
unspaced_twice [] = refl
unspaced_twice (c ∷ cs) =
    elim (cases_Bool (is_space c)) [
      | inl space ↦ ap unspaced (space_gone c cs space) ∙ unspaced_twice cs ∙ sym (space_gone c cs space)
      | inr other ↦ ap unspaced (other_kept c cs other) ∙ other_kept c (unspaced cs) other ∙ ap (λ x. c ∷ x) (unspaced_twice cs) ∙ sym (other_kept c cs other)
    ]

-- ---- literals have none

dark_from : (test : ℕ → Bool) → ((c : ℕ) → test c ≡ true → is_dark c ≡ true) → (xs : List ℕ) → list_all test xs ≡ true → list_all is_dark xs ≡ true
dark_from test each [] all = refl
dark_from test each (c ∷ cs) all =
    let parts = and_parts (test c) (list_all test cs) all in
    and_from (is_dark c) (list_all is_dark cs) (each c parts.0) (dark_from test each cs parts.1)

digit_dark : (c : ℕ) → is_ascii_digit c ≡ true → is_dark c ≡ true
digit_dark c is = le-leb 33 c (omega (arith, (digit_range c is).0))

dark_above : (low high c : ℕ) → 33 ≤ low → is_in_range low high c ≡ true → is_dark c ≡ true
dark_above low high c above is = le-leb 33 c (omega (arith, above, leb-true low c (and_parts (nat_le low c) (nat_le c high) is).0))

hex_dark : (c : ℕ) → is_ascii_hexdigit c ≡ true → is_dark c ≡ true
hex_dark c is = elim (or_cases (is_in_range 48 57 c || is_in_range 65 70 c) (is_in_range 97 102 c) is) [
  | inl upper ↦ elim (or_cases (is_in_range 48 57 c) (is_in_range 65 70 c) upper) [
    | inl digit ↦ dark_above 48 57 c (omega arith) digit
    | inr letter ↦ dark_above 65 70 c (omega arith) letter
  ]
  | inr lower ↦ dark_above 97 102 c (omega arith) lower
]

both_dark : (xs ys : List ℕ) → list_all is_dark xs ≡ true → list_all is_dark ys ≡ true → list_all is_dark (xs ++ ys) ≡ true
both_dark xs ys one two = list_all-append is_dark xs ys ∙ and_from (list_all is_dark xs) (list_all is_dark ys) one two

cons_dark : (c : ℕ) (cs : List ℕ) → 33 ≤ c → list_all is_dark cs ≡ true → list_all is_dark (c ∷ cs) ≡ true
cons_dark c cs high more = and_from (is_dark c) (list_all is_dark cs) (le-leb 33 c high) more

two_dark : (n : ℕ) (rest : List ℕ) → list_all is_dark rest ≡ true → list_all is_dark (two_digits n ++ rest) ≡ true
two_dark n rest more = cons_dark (48 + n / 10) ((48 + n % 10) ∷ rest) (omega arith) (cons_dark (48 + n % 10) rest (omega arith) more)

year_dark_by : (negative : Bool) (digits : List ℕ) → list_all is_dark digits ≡ true → list_all is_dark (cond negative (45 ∷ digits) digits) ≡ true
year_dark_by true digits all = all
year_dark_by false digits all = all

year_dark : (year : Year) → is_year_number year.digits ≡ true → list_all is_dark (spelled_year year) ≡ true
year_dark year is = year_dark_by year.negative year.digits (dark_from is_ascii_digit digit_dark year.digits (year_digits year.digits is))

fraction_dark : (fraction : List ℕ) → list_all is_ascii_digit fraction ≡ true → list_all is_dark (spelled_fraction fraction) ≡ true
fraction_dark [] all = refl
fraction_dark (c ∷ cs) all = dark_from is_ascii_digit digit_dark (c ∷ cs) all

zone_dark : (zone : Zone) → list_all is_dark (spelled_zone zone) ≡ true
zone_dark Unzoned = refl
zone_dark Utc = refl
zone_dark (Ahead hours minutes) = two_dark hours (58 ∷ two_digits minutes) (two_dark minutes [] refl)
zone_dark (Behind hours minutes) = two_dark hours (58 ∷ two_digits minutes) (two_dark minutes [] refl)

clock_dark : (clock : Clock) (zone : Zone) → is_clock clock ≡ true → list_all is_dark (spelled_clock clock ++ spelled_zone zone) ≡ true
clock_dark clock zone is =
    let rest = both_dark (spelled_fraction clock.fraction) (spelled_zone zone) (fraction_dark clock.fraction (clock_parts clock is).digits) (zone_dark zone) in
    let second = two_dark clock.second (spelled_fraction clock.fraction ++ spelled_zone zone) rest in
    let minute = two_dark clock.minute (58 ∷ (two_digits clock.second ++ (spelled_fraction clock.fraction ++ spelled_zone zone))) second in
    two_dark clock.hour (58 ∷ (two_digits clock.minute ++ (58 ∷ (two_digits clock.second ++ (spelled_fraction clock.fraction ++ spelled_zone zone))))) minute

pub literal_dark : (literal : Literal) → is_right literal ≡ true → list_all is_dark (spelled literal) ≡ true
literal_dark (Day year month day zone) is =
    let one = and_parts (is_year_number year.digits) (is_month_number month && (is_day (count_of year) month day && is_zone zone)) is in
    both_dark (spelled_year year) ((45 ∷ two_digits month) ++ (45 ∷ two_digits day) ++ spelled_zone zone) (year_dark year one.0)
    (two_dark month (45 ∷ (two_digits day ++ spelled_zone zone)) (two_dark day (spelled_zone zone) (zone_dark zone)))
literal_dark (TimeOfDay clock zone) is = clock_dark clock zone (and_parts (is_clock clock) (is_zone zone) is).0
literal_dark (DayAndTime year month day clock zone) is =
    let one = and_parts (is_year_number year.digits) (is_month_number month && (is_day (count_of year) month day && (is_clock clock && is_zone zone))) is in
    let two = and_parts (is_month_number month) (is_day (count_of year) month day && (is_clock clock && is_zone zone)) one.1 in
    let three = and_parts (is_day (count_of year) month day) (is_clock clock && is_zone zone) two.1 in
    both_dark (spelled_year year) ((45 ∷ two_digits month) ++ (45 ∷ two_digits day) ++ (84 ∷ (spelled_clock clock ++ spelled_zone zone))) (year_dark year one.0)
    (two_dark month (45 ∷ (two_digits day ++ (84 ∷ (spelled_clock clock ++ spelled_zone zone)))) (two_dark day (84 ∷ (spelled_clock clock ++ spelled_zone zone)) (clock_dark clock zone (and_parts (is_clock clock) (is_zone zone) three.1).0)))
literal_dark (WholeYear year zone) is = both_dark (spelled_year year) (spelled_zone zone) (year_dark year (and_parts (is_year_number year.digits) (is_zone zone) is).0) (zone_dark zone)
literal_dark (WholeMonth year month zone) is =
    both_dark (spelled_year year) ((45 ∷ two_digits month) ++ spelled_zone zone) (year_dark year (and_parts (is_year_number year.digits) (is_month_number month && is_zone zone) is).0)
    (two_dark month (spelled_zone zone) (zone_dark zone))

moment_unspaced : (type : MoreType) (text : List ℕ) → IsMoment type text → IsMoment type (unspaced text) × AreSameMoment type text (unspaced text)
moment_unspaced type text is =
    let literal = is.literal in
    let written = is.written in
    let dark = ap (list_all is_dark) written.parts ∙ literal_dark literal written.right in
    let parts = unspaced_is_trimmed text dark ∙ written.parts in (
      record { literal = literal; written = record { kind = written.kind; right = written.right; parts = parts } },
      record { first = literal; second = literal; first_written = written; second_written = record { kind = written.kind; right = written.right; parts = parts }; same = refl },
    )

hex_unspaced : (text : List ℕ) → is_hex (trimmed text) ≡ true → trimmed (unspaced text) ≡ trimmed text
hex_unspaced text is = unspaced_is_trimmed text (dark_from is_ascii_hexdigit hex_dark (trimmed text) (hex_parts (trimmed text) is).digits)

pub unspaced_is_same : UnspacedIsSame
unspaced_is_same Date text is = moment_unspaced Date text is
unspaced_is_same Time text is = moment_unspaced Time text is
unspaced_is_same DateTime text is = moment_unspaced DateTime text is
unspaced_is_same GYear text is = moment_unspaced GYear text is
unspaced_is_same GYearMonth text is = moment_unspaced GYearMonth text is
unspaced_is_same HexBinary text is = let same = hex_unspaced text is in (ap is_hex same ∙ is, sym (ap octets_of_hex same))
unspaced_is_same Base64Binary text is = let same = unspaced_twice text in (ap is_base64 same ∙ is, sym (ap octets_of_base64 same))
