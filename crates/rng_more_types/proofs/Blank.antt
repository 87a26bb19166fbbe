-- Blank texts are those of no octets.
use Rattle.std.proofs.Common.{◌≡◌, ℕ, Bool, true, false, ◌&&◌, eqb, cond, List, [], ◌∷◌, length, drop, Some, None, refl, sym, ap, ◌∙◌, arith, inl, inr, length-append}
use Rattle.std.specs.List.{prefix_len, position_or_len}
use Rattle.std.proofs.lemmas.List.{take-append-drop}
use Rattle.std.proofs.lemmas.Bool.{and_parts, and_from, cases_Bool, false≢true, eqb-true}
use Rattle.rng_more_types.specs.Spaces.{is_space, is_blank, without_trailing, trimmed, unspaced}
use Rattle.rng_more_types.specs.Octets.{is_hex, octets_of_hex, is_base64, octets_of_base64, digits_of, fillers_of, is_filler, last_from}
use Rattle.rng_more_types.specs.Reading.{moment_read, date_of, time_of, date_time_of, year_of, month_of, day_at, month_at, year_at, clock_at, minutes_at, two_at}
use Rattle.rng_more_types.specs.MoreTypes.{IsMoment, hex_octets, base64_octets}
use Rattle.rng_more_types.specs.Laws.{BlankIsEmpty, EmptyIsBlank, MomentIsSomething, SameAreBlankAlike}
use Rattle.rng_more_types.specs.declared.more_type.MoreType.{MoreType}
use Rattle.rng_more_types.specs.declared.more_type.MoreType.TheVariants.{Date, Time, DateTime, GYear, GYearMonth, HexBinary, Base64Binary}
use Rattle.rng_more_types.proofs.Basics.{some_value, empty_list}
use Rattle.rng_more_types.proofs.Unspaced.{drop_pass, drop_fail, space_gone, other_kept}
use Rattle.rng_more_types.proofs.Hex.{hex_parts, hex_count}
use Rattle.rng_more_types.proofs.Sixes.{base64_parts, base64_count, few_fillers}
use Rattle.rng_more_types.proofs.Decided.{reads}

pub skipped_blank : (text : List ℕ) → is_blank text ≡ true → drop (prefix_len is_space text) text ≡ []
skipped_blank [] blank = refl
skipped_blank (c ∷ cs) blank =
    let parts = and_parts (is_space c) (is_blank cs) blank in
    drop_pass is_space c cs parts.0 ∙ skipped_blank cs parts.1

pub trimmed_blank : (text : List ℕ) → is_blank text ≡ true → trimmed text ≡ []
unfolding trimmed
trimmed_blank text blank = ap (without_trailing is_space) (skipped_blank text blank)

pub unspaced_blank : (text : List ℕ) → is_blank text ≡ true → unspaced text ≡ []
unspaced_blank [] blank = refl
unspaced_blank (c ∷ cs) blank =
    let parts = and_parts (is_space c) (is_blank cs) blank in
    space_gone c cs parts.0 ∙ unspaced_blank cs parts.1

cons_not_nil : (c : ℕ) (cs : List ℕ) → c ∷ cs ≡ [] → ⊥
cons_not_nil c cs same = cc

kept : (c : ℕ) (cs : List ℕ) (test : Bool) → test ≡ false → cond test [] (c ∷ without_trailing is_space cs) ≡ c ∷ without_trailing is_space cs
kept c cs test fails = rw fails refl

trailing_none : (xs : List ℕ) → without_trailing is_space xs ≡ [] → is_blank xs ≡ true
trailing_none [] none = refl
trailing_none (c ∷ cs) none =
    elim (cases_Bool (is_space c)) [
      | inl space ↦ elim (cases_Bool (eqb (length (without_trailing is_space cs)) 0)) [
        | inl empty ↦ and_from (is_space c) (is_blank cs) space (trailing_none cs (empty_list (without_trailing is_space cs) (eqb-true (length (without_trailing is_space cs)) 0 empty)))
        | inr some ↦ absurd (cons_not_nil c (without_trailing is_space cs) (sym (kept c cs (is_space c && eqb (length (without_trailing is_space cs)) 0) (rw (space, some) refl)) ∙ none))
      ]
      | inr other ↦ absurd (cons_not_nil c (without_trailing is_space cs) (sym (kept c cs (is_space c && eqb (length (without_trailing is_space cs)) 0) (rw other refl)) ∙ none))
    ]

skipped_none : (text : List ℕ) → is_blank (drop (prefix_len is_space text) text) ≡ true → is_blank text ≡ true
skipped_none [] blank = refl
skipped_none (c ∷ cs) blank =
    elim (cases_Bool (is_space c)) [
      | inl space ↦ and_from (is_space c) (is_blank cs) space (skipped_none cs (sym (ap is_blank (drop_pass is_space c cs space)) ∙ blank))
      | inr other ↦ sym (ap is_blank (drop_fail is_space c cs other)) ∙ blank
    ]

trimmed_none : (text : List ℕ) → trimmed text ≡ [] → is_blank text ≡ true
unfolding trimmed
trimmed_none text none = skipped_none text (trailing_none (drop (prefix_len is_space text) text) none)

unspaced_none : (text : List ℕ) → unspaced text ≡ [] → is_blank text ≡ true
unspaced_none [] none = refl
unspaced_none (c ∷ cs) none =
    elim (cases_Bool (is_space c)) [
      | inl space ↦ and_from (is_space c) (is_blank cs) space (unspaced_none cs (sym (space_gone c cs space) ∙ none))
      | inr other ↦ absurd (cons_not_nil c (unspaced cs) (sym (other_kept c cs other) ∙ none))
    ]

no_hex : is_hex [] ≡ true
unfolding is_hex
no_hex = refl

no_base64 : is_base64 [] ≡ true
unfolding is_base64
no_base64 = refl

pub blank_is_empty : BlankIsEmpty
blank_is_empty Date text octets blank = absurd (false≢true octets)
blank_is_empty Time text octets blank = absurd (false≢true octets)
blank_is_empty DateTime text octets blank = absurd (false≢true octets)
blank_is_empty GYear text octets blank = absurd (false≢true octets)
blank_is_empty GYearMonth text octets blank = absurd (false≢true octets)
blank_is_empty HexBinary text octets blank = let none = trimmed_blank text blank in (ap is_hex none ∙ no_hex, ap (λ t. Some (length (octets_of_hex t))) none)
blank_is_empty Base64Binary text octets blank = let none = unspaced_blank text blank in (ap is_base64 none ∙ no_base64, ap (λ t. Some (length (octets_of_base64 t))) none)

empty_hex : (text : List ℕ) → is_hex text ≡ true → length (octets_of_hex text) ≡ 0 → text ≡ []
empty_hex text is none = empty_list text (omega (arith, (hex_parts text is).even, hex_count text, none))

empty_base64 : (text : List ℕ) → is_base64 text ≡ true → length (octets_of_base64 text) ≡ 0 → text ≡ []
empty_base64 text is none =
    let parts = base64_parts text is in
    let few = few_fillers (last_from 0 (digits_of text)) (length (fillers_of text)) parts.ending in
    let all = sym (length-append (digits_of text) (fillers_of text)) ∙ ap length (take-append-drop (position_or_len is_filler text) text) in
    empty_list text (omega (arith, parts.whole, few, base64_count text, none, all))

pub empty_is_blank : EmptyIsBlank
empty_is_blank Date text is none = absurd cc
empty_is_blank Time text is none = absurd cc
empty_is_blank DateTime text is none = absurd cc
empty_is_blank GYear text is none = absurd cc
empty_is_blank GYearMonth text is none = absurd cc
empty_is_blank HexBinary text is none = trimmed_none text (empty_hex (trimmed text) is (some_value (length (hex_octets text)) 0 none))
empty_is_blank Base64Binary text is none = unspaced_none text (empty_base64 (unspaced text) is (some_value (length (base64_octets text)) 0 none))

no_year : year_at [] ≡ None
unfolding year_at
no_year = refl

no_month : month_at [] ≡ None
unfolding month_at
no_month = rw no_year refl

no_day : day_at [] ≡ None
unfolding day_at
no_day = rw no_month refl

no_two : two_at [] ≡ None
unfolding two_at
no_two = refl

no_minutes : minutes_at [] ≡ None
unfolding minutes_at
no_minutes = rw no_two refl

no_clock : clock_at [] ≡ None
unfolding clock_at
no_clock = rw no_minutes refl

nothing_read : (type : MoreType) → moment_read type [] ≡ None
unfolding date_of time_of date_time_of year_of month_of
nothing_read Date = rw no_day refl
nothing_read Time = rw no_clock refl
nothing_read DateTime = rw no_day refl
nothing_read GYear = rw no_year refl
nothing_read GYearMonth = rw no_month refl
nothing_read HexBinary = refl
nothing_read Base64Binary = refl

moment_not_blank : (type : MoreType) (text : List ℕ) → is_blank text ≡ true → IsMoment type text → ⊥
moment_not_blank type text blank is =
    let found = sym (ap (moment_read type) (trimmed_blank text blank)) ∙ reads type text is.literal is.written in
    absurd (cc (nothing_read type, found))

pub moment_is_something : MomentIsSomething
moment_is_something Date text other blank is = moment_not_blank Date text blank is
moment_is_something Time text other blank is = moment_not_blank Time text blank is
moment_is_something DateTime text other blank is = moment_not_blank DateTime text blank is
moment_is_something GYear text other blank is = moment_not_blank GYear text blank is
moment_is_something GYearMonth text other blank is = moment_not_blank GYearMonth text blank is
moment_is_something HexBinary text other blank is = false≢true other
moment_is_something Base64Binary text other blank is = false≢true other

same_tests : (a b : Bool) → (a ≡ true → b ≡ true) → (b ≡ true → a ≡ true) → a ≡ b
same_tests true b one two = sym (one refl)
same_tests false true one two = two refl
same_tests false false one two = refl

neither_blank : (type : MoreType) (a b : List ℕ) → IsMoment type a → IsMoment type b → is_blank a ≡ is_blank b
neither_blank type a b first second = same_tests (is_blank a) (is_blank b) (λ blank. absurd (moment_not_blank type a blank first)) (λ blank. absurd (moment_not_blank type b blank second))

pub same_are_blank_alike : SameAreBlankAlike
same_are_blank_alike Date a b first second same = neither_blank Date a b first second
same_are_blank_alike Time a b first second same = neither_blank Time a b first second
same_are_blank_alike DateTime a b first second same = neither_blank DateTime a b first second
same_are_blank_alike GYear a b first second same = neither_blank GYear a b first second
same_are_blank_alike GYearMonth a b first second same = neither_blank GYearMonth a b first second
same_are_blank_alike HexBinary a b first second same = same_tests (is_blank a) (is_blank b)
    (λ blank. empty_is_blank HexBinary b second (ap (λ x. Some (length x)) (sym same) ∙ (blank_is_empty HexBinary a refl blank).1))
    (λ blank. empty_is_blank HexBinary a first (ap (λ x. Some (length x)) same ∙ (blank_is_empty HexBinary b refl blank).1))
same_are_blank_alike Base64Binary a b first second same = same_tests (is_blank a) (is_blank b)
    (λ blank. empty_is_blank Base64Binary b second (ap (λ x. Some (length x)) (sym same) ∙ (blank_is_empty Base64Binary a refl blank).1))
    (λ blank. empty_is_blank Base64Binary a first (ap (λ x. Some (length x)) same ∙ (blank_is_empty Base64Binary b refl blank).1))
