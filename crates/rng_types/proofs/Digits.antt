-- Digits in order, and the numbers that they write.
use Rattle.std.specs.Prelude.{◌≡◌, ℕ, zero, suc, ◌+◌, ◌-◌, ◌*◌, ◌^◌, ◌<◌, ◌≤◌, Bool, true, false, cond, if◌then◌else◌, ◌==◌, ◌&&◌, nat_le, List, [], ◌∷◌, ◌++◌, length, drop}
use Rattle.std.proofs.Common.{refl, sym, ap, ◌∙◌, subst, arith, add-one, add_comm, length-append}
use Rattle.std.proofs.Math.Arith.{lt_of_le-ne}
use Rattle.std.proofs.Math.Nat.{pow-suc, mul-le-mul_right, one-le-pow, pow-le-pow_right}
use Rattle.std.proofs.lemmas.Nat.{pow-add}
use Rattle.std.proofs.lemmas.Bool.{and_parts, leb-true, eqb-true, eqb-false, eq-eqb, false≢true}
use Rattle.std.proofs.lemmas.List.{nil_from_length}
use Rattle.std.proofs.lemmas.Str.{digit_value_digit}
use Rattle.std.specs.List.{list_all, prefix_len}
use Rattle.std.specs.Char.{is_ascii_digit, digit_value}
use Rattle.std.specs.Str.Parse.{digits_value, digits_value_after}
use Rattle.std.specs.Cmp.{ranked}
use Rattle.std.specs.Cmp.Lexicographic.{slice_cmp}
use Rattle.std.specs.Ordering.{nat_cmp, ordering_then, MatchOrdering}
use Rattle.rng_types.specs.Numbers.{is_zero, without_leading_zeros, without_trailing_zeros}
use Rattle.std.specs.declared.cmp.Ordering.{Ordering}
use Rattle.std.specs.declared.cmp.Ordering.TheVariants.{Less, Equal, Greater}

-- the answer r is how m compares with n
abbrev pub Ranks : Ordering → ℕ → ℕ → Type 0
Ranks r m n = MatchOrdering r (m < n) (m ≡ n) (n < m)

-- the first parts decide, and where they are equal the second ones, which are below the first ones' unit
above_unit : (a b p q unit : ℕ) → p < unit → a < b → a * unit + p < b * unit + q
above_unit a b p q unit small below =
    let more : (a + 1) * unit ≤ b * unit = mul-le-mul_right unit (omega arith) in
    omega arith

pub ranks_by_parts : (o r : Ordering) (a b p q unit : ℕ) → p < unit → q < unit → Ranks o a b → Ranks r p q → Ranks (ordering_then o r) (a * unit + p) (b * unit + q)
ranks_by_parts Less r a b p q unit hp hq first second = above_unit a b p q unit hp first
ranks_by_parts Greater r a b p q unit hp hq first second = above_unit b a q p unit hq first
ranks_by_parts Equal Less a b p q unit hp hq first second = rw first (omega arith)
ranks_by_parts Equal Equal a b p q unit hp hq first second = rw (first, second) refl
ranks_by_parts Equal Greater a b p q unit hp hq first second = rw first (omega arith)

pub below_times : (p q t : ℕ) → 0 < t → p < q → p * t < q * t
below_times p q t some below =
    let more : (p + 1) * t ≤ q * t = mul-le-mul_right t (omega arith) in
    omega arith

pub ranks-times : (r : Ordering) (p q t : ℕ) → 0 < t → Ranks r p q → Ranks r (p * t) (q * t)
ranks-times Less p q t some h = below_times p q t some h
ranks-times Equal p q t some h = rw h refl
ranks-times Greater p q t some h = below_times q p t some h

-- decimal digits, as bytes
pub data Digits : List ℕ → Type 0 where
  no_digit : Digits []
  more_digits : {c : ℕ} {cs : List ℕ} → 48 ≤ c → c ≤ 57 → Digits cs → Digits (c ∷ cs)

pub Digits-from_all : (cs : List ℕ) → list_all is_ascii_digit cs ≡ true → Digits cs
Digits-from_all [] all = no_digit
Digits-from_all (c ∷ cs) all =
    let parts = and_parts (is_ascii_digit c) (list_all is_ascii_digit cs) all in
    let bounds = and_parts (nat_le 48 c) (nat_le c 57) parts.0 in
    more_digits (leb-true 48 c bounds.0) (leb-true c 57 bounds.1) (Digits-from_all cs parts.1)

-- the number that digits write
abbrev pub value : List ℕ → ℕ
value [] = 0
value (c ∷ cs) = (c - 48) * 10 ^ length cs + value cs

pub ten_pow_pos : (n : ℕ) → 0 < 10 ^ n
ten_pow_pos n = one-le-pow n 10 (omega arith)

pub value-lt : {cs : List ℕ} → Digits cs → value cs < 10 ^ length cs
value-lt no_digit = omega arith
value-lt (more_digits {c = c} {cs = cs} low high more) =
    let small = value-lt more in
    let digit : (c - 48) * 10 ^ length cs ≤ 9 * 10 ^ length cs = mul-le-mul_right (10 ^ length cs) (omega arith) in
    rw pow-suc (omega arith)

ranks_digit : (o : Ordering) (c d : ℕ) → 48 ≤ c → 48 ≤ d → Ranks o c d → Ranks o (c - 48) (d - 48)
ranks_digit Less c d low low' h = omega arith
ranks_digit Equal c d low low' h = rw h refl
ranks_digit Greater c d low low' h = omega arith

-- texts of as many digits compare as the numbers do
pub ranks_same_length : {xs ys : List ℕ} → Digits xs → Digits ys → length xs ≡ length ys → Ranks (slice_cmp nat_cmp xs ys) (value xs) (value ys)
ranks_same_length no_digit no_digit same = refl
ranks_same_length no_digit (more_digits low high more) same = absurd (omega arith)
ranks_same_length (more_digits low high more) no_digit same = absurd (omega arith)
ranks_same_length (more_digits {c = c} {cs = cs} low high more) (more_digits {c = d} {cs = ds} low' high' more') same =
    let long : length cs ≡ length ds = omega arith in
    let P : ℕ → Type 0 = λ n. value cs < 10 ^ n in
    let small : value cs < 10 ^ length ds = subst P long (value-lt more) in
    rw long (ranks_by_parts (nat_cmp c d) (slice_cmp nat_cmp cs ds) (c - 48) (d - 48) (value cs) (value ds) (10 ^ length ds) small (value-lt more')
    (ranks_digit (nat_cmp c d) c d low low' (ranked c d (nat_cmp c d) refl)) (ranks_same_length more more' long))

-- the number by std's word
value_after : {cs : List ℕ} (n : ℕ) → Digits cs → digits_value_after 10 n cs ≡ n * 10 ^ length cs + value cs
value_after n no_digit = omega arith
value_after n (more_digits {c = c} {cs = cs} low high more) =
    let digit : digit_value c + 48 ≡ c = digit_value_digit c (low, high) in
    let d : digit_value c ≡ c - 48 = omega arith in
    value_after (n * 10 + digit_value c) more ∙ rw (d, pow-suc) (omega arith)

pub digits_value-value : {cs : List ℕ} → Digits cs → digits_value 10 cs ≡ value cs
digits_value-value {cs = cs} digits = value_after 0 digits ∙ omega arith

pub value-append : (xs ys : List ℕ) → value (xs ++ ys) ≡ value xs * 10 ^ length ys + value ys
value-append [] ys = omega arith
value-append (c ∷ cs) ys = rw (value-append cs ys, length-append cs ys, pow-add 10 (length cs) (length ys)) (omega arith)

pub Digits-append : {xs ys : List ℕ} → Digits xs → Digits ys → Digits (xs ++ ys)
Digits-append no_digit other = other
Digits-append (more_digits low high more) other = more_digits low high (Digits-append more other)

pub Digits-first : (xs ys : List ℕ) → Digits (xs ++ ys) → Digits xs
Digits-first [] ys digits = no_digit
Digits-first (c ∷ cs) ys (more_digits low high more) = more_digits low high (Digits-first cs ys more)

pub Digits-second : (xs ys : List ℕ) → Digits (xs ++ ys) → Digits ys
Digits-second [] ys digits = digits
Digits-second (c ∷ cs) ys (more_digits low high more) = Digits-second cs ys more

pub Digits-drop : {xs : List ℕ} (n : ℕ) → Digits xs → Digits (drop n xs)
Digits-drop zero digits = digits
Digits-drop (suc n) no_digit = no_digit
Digits-drop (suc n) (more_digits low high more) = Digits-drop n more

-- zeros at the start count for nothing
leading-case : (b : Bool) (c : ℕ) (cs : List ℕ) → is_zero c ≡ b → value (drop (prefix_len is_zero cs) cs) ≡ value cs → value (drop (cond b (1 + prefix_len is_zero cs) 0) (c ∷ cs)) ≡ value (c ∷ cs)
leading-case true c cs zero_is before =
    let none : c - 48 ≡ 0 = ap (λ d. d - 48) (eqb-true c 48 zero_is) in
    rw (add_comm, add-one, none) (before ∙ omega arith)
leading-case false c cs zero_is before = refl

pub value-without_leading_zeros : (xs : List ℕ) → value (without_leading_zeros xs) ≡ value xs
value-without_leading_zeros [] = refl
value-without_leading_zeros (c ∷ cs) = leading-case (is_zero c) c cs refl (value-without_leading_zeros cs)

-- the first digit, where there is one, isn't zero
pub data FirstNonzero : List ℕ → Type 0 where
  none_first : FirstNonzero []
  some_first : {c : ℕ} {cs : List ℕ} → 48 < c → FirstNonzero (c ∷ cs)

first_nonzero-case : (b : Bool) (c : ℕ) (cs : List ℕ) → is_zero c ≡ b → 48 ≤ c → FirstNonzero (drop (prefix_len is_zero cs) cs) → FirstNonzero (drop (cond b (1 + prefix_len is_zero cs) 0) (c ∷ cs))
first_nonzero-case true c cs zero_is low before = rw (add_comm, add-one) before
first_nonzero-case false c cs zero_is low before = some_first (lt_of_le-ne low (λ same. eqb-false c 48 zero_is (sym same)))

pub FirstNonzero-without_leading_zeros : {xs : List ℕ} → Digits xs → FirstNonzero (without_leading_zeros xs)
FirstNonzero-without_leading_zeros no_digit = none_first
FirstNonzero-without_leading_zeros (more_digits {c = c} {cs = cs} low high more) = first_nonzero-case (is_zero c) c cs refl low (FirstNonzero-without_leading_zeros more)

-- fewer digits write a smaller number, where the larger one's first isn't zero
fewer_below : {xs ys : List ℕ} → Digits xs → FirstNonzero ys → length xs < length ys → value xs < value ys
fewer_below digits none_first less = absurd (omega arith)
fewer_below {xs = xs} digits (some_first {c = c} {cs = cs} high) less =
    let small = value-lt digits in
    let steps : 10 ^ length xs ≤ 10 ^ length cs = pow-le-pow_right (omega arith) (omega arith) in
    let digit : 1 * 10 ^ length cs ≤ (c - 48) * 10 ^ length cs = mul-le-mul_right (10 ^ length cs) (omega arith) in
    omega arith

whole-case : (o : Ordering) (xs ys : List ℕ) → Digits xs → Digits ys → FirstNonzero xs → FirstNonzero ys → Ranks o (length xs) (length ys) → Ranks (ordering_then o (slice_cmp nat_cmp xs ys)) (value xs) (value ys)
whole-case Less xs ys dx dy fx fy h = fewer_below dx fy h
whole-case Equal xs ys dx dy fx fy h = ranks_same_length dx dy h
whole-case Greater xs ys dx dy fx fy h = fewer_below dy fx h

-- whole numbers compare by how many digits they have, and then as texts
pub ranks_whole : (xs ys : List ℕ) → Digits xs → Digits ys → FirstNonzero xs → FirstNonzero ys → Ranks (ordering_then (nat_cmp (length xs) (length ys)) (slice_cmp nat_cmp xs ys)) (value xs) (value ys)
ranks_whole xs ys dx dy fx fy = whole-case (nat_cmp (length xs) (length ys)) xs ys dx dy fx fy (ranked (length xs) (length ys) (nat_cmp (length xs) (length ys)) refl)

-- the zeros at the end of a fraction, as powers of ten
pub record Trailing (xs front : List ℕ) : Type 0 where
  pub zeros : ℕ
  pub long : length xs ≡ length front + zeros
  pub value_is : value xs ≡ value front * 10 ^ zeros

trailing-case : (b : Bool) (c : ℕ) (cs front : List ℕ) → (is_zero c && length front == 0) ≡ b → Trailing cs front → Trailing (c ∷ cs) (if b then [] else c ∷ front)
trailing-case true c cs front stripped before =
    let parts = and_parts (is_zero c) (length front == 0) stripped in
    let none : c - 48 ≡ 0 = ap (λ d. d - 48) (eqb-true c 48 parts.0) in
    let bare : front ≡ [] = nil_from_length front (eqb-true (length front) 0 parts.1) in
    let nothing : value cs ≡ 0 * 10 ^ before.zeros = before.value_is ∙ ap (λ f. value f * 10 ^ before.zeros) bare in
    record { zeros = suc (length cs); long = omega arith; value_is = rw (none, nothing) (omega arith) }
trailing-case false c cs front kept before =
    record {
      zeros = before.zeros;
      long = omega (arith, before.long);
      value_is = rw (before.value_is, before.long, pow-add 10 (length front) before.zeros) (omega arith);
    }

pub trailing : (xs : List ℕ) → Trailing xs (without_trailing_zeros xs)
trailing [] = record { zeros = 0; long = refl; value_is = refl }
trailing (c ∷ cs) = trailing-case (is_zero c && length (without_trailing_zeros cs) == 0) c cs (without_trailing_zeros cs) refl (trailing cs)

-- the last digit, where there is one, isn't zero
pub data LastNonzero : List ℕ → Type 0 where
  none_last : LastNonzero []
  some_last : {c : ℕ} → 48 < c → LastNonzero (c ∷ [])
  later_last : {c d : ℕ} {ds : List ℕ} → LastNonzero (d ∷ ds) → LastNonzero (c ∷ d ∷ ds)

last-kept : (c : ℕ) (front : List ℕ) → 48 ≤ c → (is_zero c && length front == 0) ≡ false → LastNonzero front → LastNonzero (c ∷ front)
last-kept c [] low kept last = some_last (lt_of_le-ne low (λ same. false≢true (sym kept ∙ rw (eq-eqb c 48 (sym same)) refl)))
last-kept c (d ∷ ds) low kept last = later_last last

last-case : (b : Bool) (c : ℕ) (front : List ℕ) → 48 ≤ c → (is_zero c && length front == 0) ≡ b → LastNonzero front → LastNonzero (if b then [] else c ∷ front)
last-case true c front low stripped last = none_last
last-case false c front low kept last = last-kept c front low kept last

pub LastNonzero-without_trailing_zeros : {xs : List ℕ} → Digits xs → LastNonzero (without_trailing_zeros xs)
LastNonzero-without_trailing_zeros no_digit = none_last
LastNonzero-without_trailing_zeros (more_digits {c = c} {cs = cs} low high more) =
    last-case (is_zero c && length (without_trailing_zeros cs) == 0) c (without_trailing_zeros cs) low refl (LastNonzero-without_trailing_zeros more)

digits-case : (b : Bool) (c : ℕ) (front : List ℕ) → 48 ≤ c → c ≤ 57 → Digits front → Digits (if b then [] else c ∷ front)
digits-case true c front low high digits = no_digit
digits-case false c front low high digits = more_digits low high digits

pub Digits-without_trailing_zeros : {xs : List ℕ} → Digits xs → Digits (without_trailing_zeros xs)
Digits-without_trailing_zeros no_digit = no_digit
Digits-without_trailing_zeros (more_digits {c = c} {cs = cs} low high more) =
    digits-case (is_zero c && length (without_trailing_zeros cs) == 0) c (without_trailing_zeros cs) low high (Digits-without_trailing_zeros more)

last_of_rest : {c : ℕ} {cs : List ℕ} → LastNonzero (c ∷ cs) → LastNonzero cs
last_of_rest (some_last high) = none_last
last_of_rest (later_last last) = last

positive : {c : ℕ} {cs : List ℕ} → LastNonzero (c ∷ cs) → 0 < value (c ∷ cs)
positive (some_last high) = omega arith
positive (later_last last) = omega (arith, positive last)

-- fractions without zeros at their ends compare as texts
pub ranks_fraction : {xs ys : List ℕ} → Digits xs → Digits ys → LastNonzero xs → LastNonzero ys → Ranks (slice_cmp nat_cmp xs ys) (value xs * 10 ^ length ys) (value ys * 10 ^ length xs)
ranks_fraction no_digit no_digit lx ly = refl
ranks_fraction no_digit (more_digits low high more) lx ly = omega (arith, positive ly)
ranks_fraction (more_digits low high more) no_digit lx ly = omega (arith, positive lx)
ranks_fraction (more_digits {c = c} {cs = cs} low high more) (more_digits {c = d} {cs = ds} low' high' more') lx ly =
    let unit : ℕ = 10 ^ length cs * 10 ^ length ds * 10 in
    let small : value cs * 10 ^ length ds * 10 < unit = below_times _ _ 10 (omega arith) (below_times (value cs) (10 ^ length cs) (10 ^ length ds) (ten_pow_pos (length ds)) (value-lt more)) in
    let other = below_times _ _ 10 (omega arith) (below_times (value ds) (10 ^ length ds) (10 ^ length cs) (ten_pow_pos (length cs)) (value-lt more')) in
    let small' : value ds * 10 ^ length cs * 10 < unit = omega (arith, other) in
    let rest = ranks-times (slice_cmp nat_cmp cs ds) _ _ 10 (omega arith) (ranks_fraction more more' (last_of_rest lx) (last_of_rest ly)) in
    let both = ranks_by_parts (nat_cmp c d) (slice_cmp nat_cmp cs ds) (c - 48) (d - 48) (value cs * 10 ^ length ds * 10) (value ds * 10 ^ length cs * 10) unit small small'
    (ranks_digit (nat_cmp c d) c d low low' (ranked c d (nat_cmp c d) refl)) rest in
    let left : value (c ∷ cs) * 10 ^ suc (length ds) ≡ (c - 48) * unit + value cs * 10 ^ length ds * 10 = rw (pow-suc 10 (length ds)) (omega arith) in
    let right : value (d ∷ ds) * 10 ^ suc (length cs) ≡ (d - 48) * unit + value ds * 10 ^ length cs * 10 = rw (pow-suc 10 (length cs)) (omega arith) in
    rw (left, right) both
