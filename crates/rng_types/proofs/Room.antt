-- Bounds of decimals over one power of ten, and the room between them.
use Rattle.std.specs.Prelude.{◌≡◌, ℕ, suc, ◌+◌, ◌-◌, ◌*◌, ◌^◌, ◌≤◌, ℤ, pos, negsuc, ◌+ℤ◌, ◌≤ℤ◌, ◌<ℤ◌, true, false, not, List, [], ◌∷◌, length}
use Rattle.std.proofs.Common.{refl, sym, ap, ◌∙◌, arith, length-append}
use Rattle.std.proofs.lemmas.Bool.{and_parts, and_from, leb-true, le-leb, false≢true}
use Rattle.std.proofs.lemmas.List.{length-drop}
use Rattle.std.proofs.Math.Nat.{mul-le-mul_right}
use Rattle.std.proofs.lemmas.Nat.{pow-add}
use Rattle.std.proofs.lemmas.Int.{ints}
use Rattle.std.specs.List.{list_all, position_or_len, AllByRecursion}
use Rattle.std.specs.Ordering.{int_cmp, is_lt, is_eq, MatchOrdering}
use Rattle.std.specs.Cmp.{int_ranks}
use Rattle.std.specs.declared.cmp.Ordering.{Ordering}
use Rattle.std.specs.declared.cmp.Ordering.TheVariants.{Less, Equal, Greater}
use Rattle.rng_types.specs.Spaces.{collapsed}
use Rattle.rng_types.specs.Numbers.{Number, number_of, times, compared, unsigned, is_point}
use Rattle.rng_types.specs.Giving.{is_limit_within, sign_of}
use Rattle.rng_types.specs.Facets.{holds}
use Rattle.rng_types.specs.NumberMembers.{is_number_bound, over, is_number_met, takes_number, is_number_left}
use Rattle.rng_types.specs.declared.facet.Facet.{Facet}
use Rattle.rng_types.specs.declared.facet.Facet.TheVariants.{Length, Bound}
use Rattle.rng_types.specs.declared.datatype.Except.{Except}
use Rattle.rng_types.specs.declared.datatype.Except.TheVariants.{Own, BuiltinString, BuiltinToken}
use Rattle.rng_types.proofs.Digits.{ten_pow_pos}
use Rattle.rng_types.proofs.Scaled.{times_cmp, times-product, times-places, places-over}
use Rattle.rng_types.proofs.Numeric.{all_same, IsWithin}
use Rattle.rng_types.proofs.Parted.{sign_before}

-- a number over that power of ten, which is to be no smaller than its own
abbrev pub scaled : ℕ → Number → ℤ
scaled s x = times x (10 ^ (s - x.places))

power-split : (s p : ℕ) → p ≤ s → 10 ^ s ≡ 10 ^ p * 10 ^ (s - p)
power-split s p small =
    let sum : s ≡ p + (s - p) = omega arith in
    ap (λ n. 10 ^ n) sum ∙ pow-add 10 p (s - p)

times-scaled : (s : ℕ) (x : Number) (k : ℕ) → times (over s (scaled s x)) k ≡ times (over s (times x k)) (10 ^ (s - x.places))
times-scaled s x k =
    let swap : 10 ^ (s - x.places) * k ≡ k * 10 ^ (s - x.places) = omega arith in
    sym (times-product s x (10 ^ (s - x.places)) k) ∙ ap (times x) swap ∙ times-product s x k (10 ^ (s - x.places))

times-power : (s : ℕ) (x y : Number) → x.places ≤ s → times y (10 ^ s) ≡ times (over s (times y (10 ^ x.places))) (10 ^ (s - x.places))
times-power s x y small = ap (times y) (power-split s x.places small) ∙ times-product s y (10 ^ x.places) (10 ^ (s - x.places))

-- scaling a number changes no comparison
pub compared-scaled : (s : ℕ) (x y : Number) → x.places ≤ s → compared (over s (scaled s x)) y ≡ compared x y
compared-scaled s x y small =
    let right : times y (10 ^ (over s (scaled s x)).places) ≡ times (over s (times y (10 ^ x.places))) (10 ^ (s - x.places)) =
    ap (λ n. times y (10 ^ n)) (places-over s (scaled s x)) ∙ times-power s x y small in
    ap (λ z. int_cmp z (times y (10 ^ (over s (scaled s x)).places))) (times-scaled s x (10 ^ y.places))
    ∙ ap (λ z. int_cmp (times (over s (times x (10 ^ y.places))) (10 ^ (s - x.places))) z) right
    ∙ times_cmp s (times x (10 ^ y.places)) (times y (10 ^ x.places)) (10 ^ (s - x.places)) (ten_pow_pos (s - x.places))

met-scaled : (s : ℕ) (x : Number) (facet : Facet) → x.places ≤ s → is_number_met (over s (scaled s x)) facet ≡ is_number_met x facet
met-scaled s x (Length relation limit) small = refl
met-scaled s x (Bound relation limit) small = ap (holds relation) (compared-scaled s x (number_of limit) small)

takes-scaled : (s : ℕ) (x : Number) (except : Except) → x.places ≤ s → takes_number (over s (scaled s x)) except ≡ takes_number x except
takes-scaled s x (Own literal) small = ap is_eq (compared-scaled s x (number_of (collapsed literal)) small)
takes-scaled s x (BuiltinString literal) small = refl
takes-scaled s x (BuiltinToken literal) small = refl

pub left-scaled : (s : ℕ) (facets : List Facet) (excepts : List Except) (x : Number) → x.places ≤ s → is_number_left facets excepts (over s (scaled s x)) ≡ is_number_left facets excepts x
left-scaled s facets excepts x small =
    let y = over s (scaled s x) in
    let met : list_all (is_number_met y) facets ≡ list_all (is_number_met x) facets = all_same (is_number_met y) (is_number_met x) (λ facet. met-scaled s x facet small) facets in
    let spared : list_all (λ except. not (takes_number y except)) excepts ≡ list_all (λ except. not (takes_number x except)) excepts =
    all_same (λ except. not (takes_number y except)) (λ except. not (takes_number x except)) (λ except. ap not (takes-scaled s x except small)) excepts in
    rw (met, spared) refl

-- two numbers compare as they do over a power of ten
pub compared-at : (s : ℕ) (x y : Number) → x.places ≤ s → y.places ≤ s → compared x y ≡ int_cmp (scaled s x) (scaled s y)
compared-at s x y small small' =
    let right : times y (10 ^ (over s (scaled s x)).places) ≡ times (over s (scaled s y)) (10 ^ y.places) =
    ap (λ n. times y (10 ^ n)) (places-over s (scaled s x)) ∙ times-places s y small' in
    sym (compared-scaled s x y small)
    ∙ ap (λ z. int_cmp (times (over s (scaled s x)) (10 ^ y.places)) z) right
    ∙ times_cmp s (scaled s x) (scaled s y) (10 ^ y.places) (ten_pow_pos y.places)

less_says : (r : Ordering) (w z : ℤ) → MatchOrdering r (w <ℤ z) (w ≡ z) (z <ℤ w) → is_lt r ≡ true → w <ℤ z
less_says Less w z h less = h
less_says Equal w z h less = absurd (false≢true less)
less_says Greater w z h less = absurd (false≢true less)

not_less_says : (r : Ordering) (w z : ℤ) → MatchOrdering r (w <ℤ z) (w ≡ z) (z <ℤ w) → is_lt r ≡ false → z ≤ℤ w
not_less_says Less w z h less = absurd (false≢true (sym less))
not_less_says Equal w z h less = omega (arith, ints)
not_less_says Greater w z h less = omega (arith, ints)

pub less_at : (s : ℕ) (x y : Number) → x.places ≤ s → y.places ≤ s → is_lt (compared x y) ≡ true → scaled s x <ℤ scaled s y
less_at s x y small small' less = less_says (int_cmp (scaled s x) (scaled s y)) (scaled s x) (scaled s y) (int_ranks (scaled s x) (scaled s y)) (ap is_lt (sym (compared-at s x y small small')) ∙ less)

pub not_less_at : (s : ℕ) (x y : Number) → x.places ≤ s → y.places ≤ s → is_lt (compared x y) ≡ false → scaled s y ≤ℤ scaled s x
not_less_at s x y small small' less = not_less_says (int_cmp (scaled s x) (scaled s y)) (scaled s x) (scaled s y) (int_ranks (scaled s x) (scaled s y)) (ap is_lt (sym (compared-at s x y small small')) ∙ less)

-- over a greater power of ten there are numbers between
gap_times : (s : ℕ) (a b : ℤ) (k : ℕ) → a <ℤ b → (times (over s a) k +ℤ pos k) ≤ℤ times (over s b) k
gap_times s (pos m) (pos n) k less =
    let h : (m + 1) * k ≤ n * k = mul-le-mul_right k (omega (arith, ints)) in
    omega (arith, ints)
gap_times s (pos m) (negsuc n) k less = absurd (omega (arith, ints))
gap_times s (negsuc m) (pos n) k less =
    let h : 1 * k ≤ suc m * k = mul-le-mul_right k (omega arith) in
    omega (arith, ints)
gap_times s (negsuc m) (negsuc n) k less =
    let h : (suc n + 1) * k ≤ suc m * k = mul-le-mul_right k (omega (arith, ints)) in
    omega (arith, ints)

scaled-more : (s e : ℕ) (x : Number) → x.places ≤ s → scaled (s + e) x ≡ times (over s (scaled s x)) (10 ^ e)
scaled-more s e x small =
    let sum : (s + e) - x.places ≡ (s - x.places) + e = omega arith in
    ap (λ n. times x (10 ^ n)) sum ∙ ap (times x) (pow-add 10 (s - x.places) e) ∙ times-product s x (10 ^ (s - x.places)) (10 ^ e)

pub gap_at : (s e : ℕ) (x y : Number) → x.places ≤ s → y.places ≤ s → is_lt (compared x y) ≡ true → (scaled (s + e) x +ℤ pos (10 ^ e)) ≤ℤ scaled (s + e) y
gap_at s e x y small small' less =
    rw (scaled-more s e x small, scaled-more s e y small') (gap_times s (scaled s x) (scaled s y) (10 ^ e) (less_at s x y small small' less))

-- a power of ten that is no smaller than those of the bounds
places_of : Facet → ℕ
places_of (Length relation limit) = 0
places_of (Bound relation limit) = (number_of limit).places

pub most_places : List Facet → ℕ
most_places [] = 0
most_places (facet ∷ facets) = places_of facet + most_places facets

within_case : (s : ℕ) (facet : Facet) → is_number_bound facet ≡ true → places_of facet ≤ s → IsWithin s facet
unfolding places_of
within_case s (Length relation limit) bound small = absurd (false≢true bound)
within_case s (Bound relation limit) bound small = small

pub within_most : (s : ℕ) (facets : List Facet) → list_all is_number_bound facets ≡ true → most_places facets ≤ s → AllByRecursion (IsWithin s) facets
unfolding most_places
within_most s [] bounds small = tt
within_most s (facet ∷ facets) bounds small =
    let parts = and_parts _ _ bounds in
    (within_case s facet parts.0 (omega arith), within_most s facets parts.1 (omega arith))

-- a length that no limit of a bound exceeds, and so no limit's fraction
limit_length : Facet → ℕ
limit_length (Length relation limit) = 0
limit_length (Bound relation limit) = length limit

pub most_length : List Facet → ℕ
most_length [] = 0
most_length (facet ∷ facets) = limit_length facet + most_length facets

pub limit_within_more : (k s : ℕ) (facet : Facet) → k ≤ s → is_limit_within k facet ≡ true → is_limit_within s facet ≡ true
limit_within_more k s (Length relation limit) more within = refl
limit_within_more k s (Bound relation limit) more within = let h : length limit ≤ k = leb-true (length limit) k within in le-leb (length limit) s (omega (arith, h, more))

pub limits_within_more : (k s : ℕ) (facets : List Facet) → k ≤ s → list_all (is_limit_within k) facets ≡ true → list_all (is_limit_within s) facets ≡ true
limits_within_more k s [] more within = refl
limits_within_more k s (facet ∷ facets) more within =
    let parts = and_parts (is_limit_within k facet) (list_all (is_limit_within k) facets) within in
    and_from _ _ (limit_within_more k s facet more parts.0) (limits_within_more k s facets more parts.1)

limit_within : (facet : Facet) → is_limit_within (limit_length facet) facet ≡ true
unfolding limit_length
limit_within (Length relation limit) = refl
limit_within (Bound relation limit) = le-leb (length limit) (length limit) (omega arith)

pub limits_within : (facets : List Facet) → list_all (is_limit_within (most_length facets)) facets ≡ true
unfolding most_length
limits_within [] = refl
limits_within (facet ∷ facets) =
    and_from _ _ (limit_within_more (limit_length facet) (limit_length facet + most_length facets) facet (omega arith) (limit_within facet))
    (limits_within_more (most_length facets) (limit_length facet + most_length facets) facets (omega arith) (limits_within facets))

pub length-unsigned : (text : List ℕ) → length (unsigned text) ≤ length text
length-unsigned text = omega (arith, length-append (sign_of text) (unsigned text), ap length (sign_before text))

pub places_short : (text : List ℕ) → (number_of text).places ≤ length text
places_short text = omega (arith, length-unsigned text, length-drop (position_or_len is_point (unsigned text) + 1) (unsigned text))

within_limit : (k : ℕ) (facet : Facet) → is_number_bound facet ≡ true → is_limit_within k facet ≡ true → IsWithin k facet
within_limit k (Length relation limit) bound within = absurd (false≢true bound)
within_limit k (Bound relation limit) bound within = let h : length limit ≤ k = leb-true (length limit) k within in omega (arith, h, places_short limit)

pub within_limits : (k : ℕ) (facets : List Facet) → list_all is_number_bound facets ≡ true → list_all (is_limit_within k) facets ≡ true → AllByRecursion (IsWithin k) facets
within_limits k [] bounds within = tt
within_limits k (facet ∷ facets) bounds within =
    let first = and_parts (is_number_bound facet) (list_all is_number_bound facets) bounds in
    let parts = and_parts (is_limit_within k facet) (list_all (is_limit_within k) facets) within in
    (within_limit k facet first.0 parts.0, within_limits k facets first.1 parts.1)
