-- How the numbers of two literals compare, by their digits.
use Rattle.std.specs.Prelude.{◌≡◌, ◌≢◌, ℕ, zero, suc, ◌+◌, ◌-◌, ◌*◌, ◌^◌, ◌<◌, ◌≤◌, ℤ, pos, neg_ℤ, ◌<ℤ◌, Bool, true, false, if◌then◌else◌, not, ◌==◌, ◌&&◌, List, [], ◌∷◌, ◌++◌, length, drop}
use Rattle.std.proofs.Common.{refl, sym, ap, ◌∙◌, arith, length-append, append-nil, inl, inr}
use Rattle.std.proofs.lemmas.Int.{ints}
use Rattle.std.proofs.Math.Nat.{one-le-mul}
use Rattle.std.proofs.Math.Arith.{lt_of_le-ne}
use Rattle.std.proofs.lemmas.Nat.{pow-add}
use Rattle.std.proofs.lemmas.Bool.{and_parts, eqb-true, eqb-false, ne_eqb, false≢true, cases_Bool, not_from_false}
use Rattle.std.specs.List.{list_all, position_or_len}
use Rattle.std.proofs.Math.Seq.{take-length}
use Rattle.std.proofs.Math.ListN.{drop_of_length-le}
use Rattle.std.specs.Char.{is_ascii_digit}
use Rattle.std.specs.Str.Parse.{digits_value}
use Rattle.std.specs.Cmp.{ranked, nat_cmp_is, int_cmp_is}
use Rattle.std.specs.Cmp.Lexicographic.{slice_cmp}
use Rattle.std.specs.Ordering.{nat_cmp, ordering_then, ordering_reverse, MatchOrdering}
use Rattle.std.specs.declared.cmp.Ordering.{Ordering}
use Rattle.std.specs.declared.cmp.Ordering.TheVariants.{Less, Equal, Greater}
use Rattle.rng_types.specs.Numbers.{is_zero, is_point, is_integer, unsigned, without_leading_zeros, without_trailing_zeros, whole_part, fraction_part, is_decimal, is_negative, number_of, compared}
use Rattle.rng_types.proofs.Digits.{Ranks, ranks_by_parts, ranks-times, Digits, no_digit, more_digits, Digits-from_all, value, value-lt, ten_pow_pos, below_times, digits_value-value, value-append, Digits-append, Digits-first, Digits-second, Digits-drop, value-without_leading_zeros, FirstNonzero-without_leading_zeros, ranks_whole, trailing, LastNonzero-without_trailing_zeros, Digits-without_trailing_zeros, ranks_fraction}

-- a zero at the end goes, and behind another digit nothing does
stripped_same : (c : ℕ) (cs : List ℕ) (a b : List ℕ) → a ≡ b → (if is_zero c && length a == 0 then [] else c ∷ a) ≡ (if is_zero c && length b == 0 then [] else c ∷ b)
stripped_same c cs a b same = rw same refl

pub without_trailing_zeros-zero : (xs : List ℕ) (c : ℕ) → c ≡ 48 → without_trailing_zeros (xs ++ c ∷ []) ≡ without_trailing_zeros xs
without_trailing_zeros-zero [] c zero_is = rw zero_is refl
without_trailing_zeros-zero (x ∷ xs) c zero_is = stripped_same x xs _ _ (without_trailing_zeros-zero xs c zero_is)

kept_by : (x : ℕ) (xs : List ℕ) (c : ℕ) → (if is_zero x && length (xs ++ c ∷ []) == 0 then [] else x ∷ (xs ++ c ∷ [])) ≡ x ∷ (xs ++ c ∷ [])
kept_by x xs c =
    let some : (length (xs ++ c ∷ []) == 0) ≡ false = ne_eqb _ _ (λ none. absurd (omega (arith, length-append xs (c ∷ []), none))) in
    elim (cases_Bool (is_zero x)) [ inl zero_is ↦ rw (zero_is, some) refl | inr other ↦ rw other refl ]

pub without_trailing_zeros-other : (xs : List ℕ) (c : ℕ) → c ≢ 48 → without_trailing_zeros (xs ++ c ∷ []) ≡ xs ++ c ∷ []
without_trailing_zeros-other [] c other = rw (ne_eqb c 48 other) refl
without_trailing_zeros-other (x ∷ xs) c other = stripped_same x xs _ _ (without_trailing_zeros-other xs c other) ∙ kept_by x xs c

-- fractions compare without their zeros at the end
ranks_fraction_whole : (fa fb : List ℕ) → Digits fa → Digits fb → Ranks (slice_cmp nat_cmp (without_trailing_zeros fa) (without_trailing_zeros fb)) (value fa * 10 ^ length fb) (value fb * 10 ^ length fa)
ranks_fraction_whole fa fb da db =
    let a = without_trailing_zeros fa in
    let b = without_trailing_zeros fb in
    let ta = trailing fa in
    let tb = trailing fb in
    let r : Ordering = slice_cmp nat_cmp a b in
    let unit : ℕ = 10 ^ ta.zeros * 10 ^ tb.zeros in
    let some : 0 < unit = one-le-mul (ten_pow_pos ta.zeros) (ten_pow_pos tb.zeros) in
    let bare = ranks_fraction (Digits-without_trailing_zeros da) (Digits-without_trailing_zeros db) (LastNonzero-without_trailing_zeros da) (LastNonzero-without_trailing_zeros db) in
    let scaled = ranks-times r (value a * 10 ^ length b) (value b * 10 ^ length a) unit some bare in
    let left : value fa * 10 ^ length fb ≡ value a * 10 ^ length b * unit = rw (ta.value_is, tb.long, pow-add 10 (length b) tb.zeros) (omega arith) in
    let right : value fb * 10 ^ length fa ≡ value b * 10 ^ length a * unit = rw (tb.value_is, ta.long, pow-add 10 (length a) ta.zeros) (omega arith) in
    rw (left, right) scaled

-- and so do numbers without their signs
pub ranks_magnitude : (wa fa wb fb : List ℕ) → Digits wa → Digits fa → Digits wb → Digits fb →
    Ranks (ordering_then (ordering_then (nat_cmp (length (without_leading_zeros wa)) (length (without_leading_zeros wb))) (slice_cmp nat_cmp (without_leading_zeros wa) (without_leading_zeros wb))) (slice_cmp nat_cmp (without_trailing_zeros fa) (without_trailing_zeros fb)))
    (digits_value 10 (wa ++ fa) * 10 ^ length fb) (digits_value 10 (wb ++ fb) * 10 ^ length fa)
ranks_magnitude wa fa wb fb dwa dfa dwb dfb =
    let a = without_leading_zeros wa in
    let b = without_leading_zeros wb in
    let o : Ordering = ordering_then (nat_cmp (length a) (length b)) (slice_cmp nat_cmp a b) in
    let r : Ordering = slice_cmp nat_cmp (without_trailing_zeros fa) (without_trailing_zeros fb) in
    let bare : Ranks o (value a) (value b) = ranks_whole a b (Digits-drop _ dwa) (Digits-drop _ dwb) (FirstNonzero-without_leading_zeros dwa) (FirstNonzero-without_leading_zeros dwb) in
    let whole : Ranks o (value wa) (value wb) = rw (value-without_leading_zeros wa, value-without_leading_zeros wb) at bare in
    let unit : ℕ = 10 ^ length fa * 10 ^ length fb in
    let small : value fa * 10 ^ length fb < unit = below_times _ _ _ (ten_pow_pos (length fb)) (value-lt dfa) in
    let other = below_times _ _ _ (ten_pow_pos (length fa)) (value-lt dfb) in
    let small' : value fb * 10 ^ length fa < unit = omega (arith, other) in
    let both = ranks_by_parts o r (value wa) (value wb) (value fa * 10 ^ length fb) (value fb * 10 ^ length fa) unit small small' whole (ranks_fraction_whole fa fb dfa dfb) in
    let left : digits_value 10 (wa ++ fa) * 10 ^ length fb ≡ value wa * unit + value fa * 10 ^ length fb = rw (digits_value-value (Digits-append dwa dfa), value-append wa fa) (omega arith) in
    let right : digits_value 10 (wb ++ fb) * 10 ^ length fa ≡ value wb * unit + value fb * 10 ^ length fa = rw (digits_value-value (Digits-append dwb dfb), value-append wb fb) (omega arith) in
    rw (left, right) both

-- the parts of a decimal literal are digits
pub decimal_all : (text : List ℕ) → is_decimal text ≡ true → list_all is_ascii_digit (whole_part text ++ fraction_part text) ≡ true
decimal_all text decimal = (and_parts (not (length (whole_part text ++ fraction_part text) == 0)) (list_all is_ascii_digit (whole_part text ++ fraction_part text)) decimal).1

pub Digits-whole : (text : List ℕ) → is_decimal text ≡ true → Digits (whole_part text)
Digits-whole text decimal = Digits-first (whole_part text) (fraction_part text) (Digits-from_all _ (decimal_all text decimal))

pub Digits-fraction : (text : List ℕ) → is_decimal text ≡ true → Digits (fraction_part text)
Digits-fraction text decimal = Digits-second (whole_part text) (fraction_part text) (Digits-from_all _ (decimal_all text decimal))

-- the answer of `compare_magnitudes`
pub magnitudes_compare : (a b : List ℕ) → is_decimal a ≡ true → is_decimal b ≡ true →
    ordering_then (ordering_then (nat_cmp (length (without_leading_zeros (whole_part a))) (length (without_leading_zeros (whole_part b)))) (slice_cmp nat_cmp (without_leading_zeros (whole_part a)) (without_leading_zeros (whole_part b)))) (slice_cmp nat_cmp (without_trailing_zeros (fraction_part a)) (without_trailing_zeros (fraction_part b)))
    ≡ nat_cmp (digits_value 10 (whole_part a ++ fraction_part a) * 10 ^ length (fraction_part b)) (digits_value 10 (whole_part b ++ fraction_part b) * 10 ^ length (fraction_part a))
magnitudes_compare a b da db =
    nat_cmp_is _ _ _ (ranks_magnitude (whole_part a) (fraction_part a) (whole_part b) (fraction_part b) (Digits-whole a da) (Digits-fraction a da) (Digits-whole b db) (Digits-fraction b db))

one_above : (c : ℕ) → 48 ≤ c → (c ≡ 48 → ⊥) → 1 ≤ c - 48
one_above c low other = let high : 48 < c = lt_of_le-ne low (λ same. other (sym same)) in omega arith

and-assoc : (a b c d : Bool) → d ≡ (b && c) → (a && d) ≡ ((a && b) && c)
and-assoc true b c d h = h
and-assoc false b c d h = refl

-- digits that are all zeros write zero, and others don't
zeros-case : (b : Bool) (c : ℕ) (cs : List ℕ) → is_zero c ≡ b → 48 ≤ c → list_all is_zero cs ≡ (value cs == 0) → (b && list_all is_zero cs) ≡ (((c - 48) * 10 ^ length cs + value cs) == 0)
zeros-case true c cs zero_is low before =
    let none : c - 48 ≡ 0 = ap (λ d. d - 48) (eqb-true c 48 zero_is) in
    let sum : (c - 48) * 10 ^ length cs + value cs ≡ value cs = rw none (omega arith) in
    rw sum before
zeros-case false c cs other low before =
    let some : 1 ≤ (c - 48) * 10 ^ length cs = one-le-mul (one_above c low (eqb-false c 48 other)) (ten_pow_pos (length cs)) in
    sym (ne_eqb _ _ (λ none. absurd (omega arith)))

zeros_write_zero : {cs : List ℕ} → Digits cs → list_all is_zero cs ≡ (value cs == 0)
zeros_write_zero no_digit = refl
zeros_write_zero (more_digits {c = c} {cs = cs} low high more) = zeros-case (is_zero c) c cs refl low (zeros_write_zero more)

pub list_all-append : (p : ℕ → Bool) (xs ys : List ℕ) → list_all p (xs ++ ys) ≡ (list_all p xs && list_all p ys)
list_all-append p [] ys = refl
list_all-append p (x ∷ xs) ys = and-assoc (p x) (list_all p xs) (list_all p ys) (list_all p (xs ++ ys)) (list_all-append p xs ys)

pub zero_by_digits : (text : List ℕ) → is_decimal text ≡ true → (list_all is_zero (whole_part text) && list_all is_zero (fraction_part text)) ≡ ((number_of text).digits == 0)
zero_by_digits text decimal =
    let digits = Digits-append (Digits-whole text decimal) (Digits-fraction text decimal) in
    sym (list_all-append is_zero (whole_part text) (fraction_part text)) ∙ zeros_write_zero digits ∙ ap (λ n. n == 0) (sym (digits_value-value digits))

-- a number below zero, and one that isn't
abbrev signed : Bool → ℕ → ℤ
signed negative m = if negative then neg_ℤ (pos m) else pos m

not_below : (negative : Bool) (d k : ℕ) → (negative && not (d == 0)) ≡ false → signed negative (d * k) ≡ pos (d * k)
not_below false d k h = refl
not_below true zero k h = let none : 0 * k ≡ 0 = omega arith in rw none refl
not_below true (suc d) k h = absurd (false≢true (sym h ∙ not_from_false _ (ne_eqb (suc d) 0 (λ none. absurd (omega (arith, none))))))

is_below : (negative : Bool) (d k : ℕ) → 0 < k → (negative && not (d == 0)) ≡ true → (signed negative (d * k) ≡ neg_ℤ (pos (d * k))) × (0 < d * k)
is_below false d k some h = absurd (false≢true h)
is_below true zero k some h = absurd (false≢true h)
is_below true (suc d) k some h = (refl, one-le-mul (omega arith) some)

abbrev RanksSigned : Ordering → ℤ → ℤ → Type 0
RanksSigned r x y = MatchOrdering r (x <ℤ y) (x ≡ y) (y <ℤ x)

ranks_above : (r : Ordering) (m n : ℕ) → Ranks r m n → RanksSigned r (pos m) (pos n)
ranks_above Less m n h = omega (arith, ints)
ranks_above Equal m n h = ap pos h
ranks_above Greater m n h = omega (arith, ints)

ranks_below : (r : Ordering) (m n : ℕ) → Ranks r m n → RanksSigned (ordering_reverse r) (neg_ℤ (pos m)) (neg_ℤ (pos n))
ranks_below Less m n h = omega (arith, ints)
ranks_below Equal m n h = ap (λ k. neg_ℤ (pos k)) h
ranks_below Greater m n h = omega (arith, ints)

below_first : (m n : ℕ) → 0 < m → neg_ℤ (pos m) <ℤ pos n
below_first m n some = omega (arith, ints)

-- the answers of `compare`, by which of the numbers are below zero
abbrev pub is_below_zero : List ℕ → Bool
is_below_zero text = is_negative text && not ((number_of text).digits == 0)

pub compare_above : (a b : List ℕ) → is_below_zero a ≡ false → is_below_zero b ≡ false →
    nat_cmp ((number_of a).digits * 10 ^ (number_of b).places) ((number_of b).digits * 10 ^ (number_of a).places) ≡ compared (number_of a) (number_of b)
compare_above a b above above' =
    let x = number_of a in
    let y = number_of b in
    let m : ℕ = x.digits * 10 ^ y.places in
    let n : ℕ = y.digits * 10 ^ x.places in
    rw (not_below x.negative x.digits (10 ^ y.places) above, not_below y.negative y.digits (10 ^ x.places) above')
    (int_cmp_is _ _ _ (ranks_above (nat_cmp m n) m n (ranked m n (nat_cmp m n) refl)))

pub compare_below : (a b : List ℕ) → is_below_zero a ≡ true → is_below_zero b ≡ true →
    ordering_reverse (nat_cmp ((number_of a).digits * 10 ^ (number_of b).places) ((number_of b).digits * 10 ^ (number_of a).places)) ≡ compared (number_of a) (number_of b)
compare_below a b below below' =
    let x = number_of a in
    let y = number_of b in
    let m : ℕ = x.digits * 10 ^ y.places in
    let n : ℕ = y.digits * 10 ^ x.places in
    rw ((is_below x.negative x.digits (10 ^ y.places) (ten_pow_pos y.places) below).0, (is_below y.negative y.digits (10 ^ x.places) (ten_pow_pos x.places) below').0)
    (int_cmp_is _ _ _ (ranks_below (nat_cmp m n) m n (ranked m n (nat_cmp m n) refl)))

pub compare_less : (a b : List ℕ) → is_below_zero a ≡ true → is_below_zero b ≡ false → Less ≡ compared (number_of a) (number_of b)
compare_less a b below above =
    let x = number_of a in
    let y = number_of b in
    let first = is_below x.negative x.digits (10 ^ y.places) (ten_pow_pos y.places) below in
    rw (first.0, not_below y.negative y.digits (10 ^ x.places) above) (int_cmp_is _ _ Less (below_first _ _ first.1))

pub compare_greater : (a b : List ℕ) → is_below_zero a ≡ false → is_below_zero b ≡ true → Greater ≡ compared (number_of a) (number_of b)
compare_greater a b above below =
    let x = number_of a in
    let y = number_of b in
    let second = is_below y.negative y.digits (10 ^ x.places) (ten_pow_pos x.places) below in
    rw (not_below x.negative x.digits (10 ^ y.places) above, second.0) (int_cmp_is _ _ Greater (below_first _ _ second.1))

-- an integer's literal is a decimal's
pub point_after_digits : {cs : List ℕ} → Digits cs → position_or_len is_point cs ≡ length cs
point_after_digits no_digit = refl
point_after_digits (more_digits {c = c} {cs = cs} low high more) =
    let other : (c == 46) ≡ false = ne_eqb c 46 (λ same. absurd (omega (arith, same))) in
    rw (other, point_after_digits more) (omega arith)

pub decimal_from_integer : (text : List ℕ) → is_integer text ≡ true → is_decimal text ≡ true
decimal_from_integer text integer =
    let u : List ℕ = unsigned text in
    let parts = and_parts (not (length u == 0)) (list_all is_ascii_digit u) integer in
    let place = point_after_digits (Digits-from_all u parts.1) in
    let none : drop (length u + 1) u ≡ [] = drop_of_length-le u (omega arith) in
    rw (place, take-length u, none, append-nil u) integer
