-- Numbers over one power of ten compare as whole numbers do.
use Rattle.std.specs.Prelude.{◌≡◌, ℕ, zero, suc, ◌+◌, ◌-◌, ◌*◌, ◌^◌, ◌<◌, ◌≤◌, ℤ, pos, negsuc, neg_ℤ, ◌<ℤ◌, Bool, true, false, if◌then◌else◌, List}
use Rattle.std.proofs.Common.{refl, sym, ap, ◌∙◌, arith}
use Rattle.std.proofs.Math.Nat.{one-le-mul}
use Rattle.std.proofs.lemmas.Nat.{pow-add}
use Rattle.std.proofs.lemmas.Int.{ints, by_lt_z}
use Rattle.std.proofs.lemmas.Bool.Decides.{Decides-int_eq}
use Rattle.std.specs.Ordering.{int_cmp, MatchOrdering}
use Rattle.std.specs.Cmp.{int_cmp_is, int_ranks}
use Rattle.std.specs.declared.cmp.Ordering.{Ordering}
use Rattle.std.specs.declared.cmp.Ordering.TheVariants.{Less, Equal, Greater}
use Rattle.rng_types.specs.Spaces.{collapsed}
use Rattle.rng_types.specs.Numbers.{compared, Number, number_of, times}
use Rattle.rng_types.specs.Facets.{holds}
use Rattle.rng_types.specs.NumberMembers.{Limit, limit_over, over, is_number_met, takes_number}
use Rattle.rng_types.specs.declared.facet.Relation.{Relation}
use Rattle.rng_types.specs.declared.facet.Facet.TheVariants.{Bound}
use Rattle.rng_types.specs.declared.datatype.Except.{Except}
use Rattle.rng_types.specs.declared.datatype.Except.TheVariants.{Own, BuiltinString, BuiltinToken}
use Rattle.rng_types.proofs.Digits.{below_times, ten_pow_pos}
use Rattle.rng_types.proofs.LeftOver.{TakesOne}

pub places-over : (s : ℕ) (w : ℤ) → (over s w).places ≡ s
places-over s (pos n) = refl
places-over s (negsuc n) = refl

pub times_lt : (s : ℕ) (w z : ℤ) (k : ℕ) → 0 < k → w <ℤ z → times (over s w) k <ℤ times (over s z) k
times_lt s (pos m) (pos n) k some less =
    let h : m * k < n * k = below_times m n k some (omega (arith, ints)) in
    omega (arith, ints)
times_lt s (pos m) (negsuc n) k some less = absurd (omega (arith, ints))
times_lt s (negsuc m) (pos n) k some less =
    let h : 1 ≤ suc m * k = one-le-mul (omega arith) some in
    omega (arith, ints)
times_lt s (negsuc m) (negsuc n) k some less =
    let h : suc n * k < suc m * k = below_times (suc n) (suc m) k some (omega (arith, ints)) in
    omega (arith, ints)

pub times_same : (s : ℕ) (w z : ℤ) (k : ℕ) → 0 < k → times (over s w) k ≡ times (over s z) k → w ≡ z
times_same s w z k some same =
    by_lt_z w z
    (λ less. absurd (let h : times (over s w) k <ℤ times (over s z) k = times_lt s w z k some less in omega (arith, ints)))
    (λ above. by_lt_z z w
    (λ less. absurd (let h : times (over s z) k <ℤ times (over s w) k = times_lt s z w k some less in omega (arith, ints)))
    (λ below. omega (arith, ints)))

times_ranks : (r : Ordering) (s : ℕ) (w z : ℤ) (k : ℕ) → 0 < k → MatchOrdering r (w <ℤ z) (w ≡ z) (z <ℤ w) →
    MatchOrdering r (times (over s w) k <ℤ times (over s z) k) (times (over s w) k ≡ times (over s z) k) (times (over s z) k <ℤ times (over s w) k)
times_ranks Less s w z k some h = times_lt s w z k some h
times_ranks Equal s w z k some h = ap (λ v. times (over s v) k) h
times_ranks Greater s w z k some h = times_lt s z w k some h

pub times_cmp : (s : ℕ) (w z : ℤ) (k : ℕ) → 0 < k → int_cmp (times (over s w) k) (times (over s z) k) ≡ int_cmp w z
times_cmp s w z k some = sym (int_cmp_is _ _ (int_cmp w z) (times_ranks (int_cmp w z) s w z k some (int_ranks w z)))

-- a number times a product
signed : Bool → ℕ → ℤ
signed negative m = if negative then neg_ℤ (pos m) else pos m

negative-times : (s m k : ℕ) → times (over s (neg_ℤ (pos m))) k ≡ neg_ℤ (pos (m * k))
negative-times s zero k = let none : 0 * k ≡ 0 = omega arith in rw none refl
negative-times s (suc m) k = refl

signed-times : (b : Bool) (s d a k : ℕ) → (if b then neg_ℤ (pos (d * (a * k))) else pos (d * (a * k))) ≡ times (over s (if b then neg_ℤ (pos (d * a)) else pos (d * a))) k
signed-times true s d a k =
    let same : d * (a * k) ≡ d * a * k = omega arith in
    ap (λ m. neg_ℤ (pos m)) same ∙ sym (negative-times s (d * a) k)
signed-times false s d a k = let same : d * (a * k) ≡ d * a * k = omega arith in ap pos same

pub times-product : (s : ℕ) (x : Number) (a k : ℕ) → times x (a * k) ≡ times (over s (times x a)) k
times-product s x a k = signed-times x.negative s x.digits a k

power-split : (s p : ℕ) → p ≤ s → 10 ^ s ≡ 10 ^ (s - p) * 10 ^ p
power-split s p small =
    let sum : s ≡ (s - p) + p = omega arith in
    ap (λ n. 10 ^ n) sum ∙ pow-add 10 (s - p) p

pub times-places : (s : ℕ) (y : Number) → y.places ≤ s → times y (10 ^ s) ≡ times (over s (times y (10 ^ (s - y.places)))) (10 ^ y.places)
times-places s y small = ap (times y) (power-split s y.places small) ∙ times-product s y (10 ^ (s - y.places)) (10 ^ y.places)

-- a whole number meets a limit
abbrev pub is_met : ℤ → Limit → Bool
is_met w limit = holds limit.relation (int_cmp w limit.at)

pub compared_over : (s : ℕ) (w : ℤ) (limit : List ℕ) → (number_of limit).places ≤ s → compared (over s w) (number_of limit) ≡ int_cmp w (times (number_of limit) (10 ^ (s - (number_of limit).places)))
compared_over s w limit small =
    let y = number_of limit in
    let right : times y (10 ^ (over s w).places) ≡ times (over s (times y (10 ^ (s - y.places)))) (10 ^ y.places) =
    ap (λ n. times y (10 ^ n)) (places-over s w) ∙ times-places s y small in
    ap (λ z. int_cmp (times (over s w) (10 ^ y.places)) z) right
    ∙ times_cmp s w (times y (10 ^ (s - y.places))) (10 ^ y.places) (ten_pow_pos y.places)

pub met-over : (s : ℕ) (w : ℤ) (relation : Relation) (limit : List ℕ) → (number_of limit).places ≤ s → is_number_met (over s w) (Bound relation limit) ≡ is_met w (limit_over s (Bound relation limit))
met-over s w relation limit small = ap (holds relation) (compared_over s w limit small)

-- an except takes at most one number over a power of ten
own_one : (s : ℕ) (w z : ℤ) (y : Number) → times (over s w) (10 ^ y.places) ≡ times y (10 ^ (over s w).places) → times (over s z) (10 ^ y.places) ≡ times y (10 ^ (over s z).places) → w ≡ z
own_one s w z y first second =
    times_same s w z (10 ^ y.places) (ten_pow_pos y.places)
    (first ∙ ap (λ n. times y (10 ^ n)) (places-over s w ∙ sym (places-over s z)) ∙ sym second)

pub takes_one_number : (s : ℕ) (candidate : ℕ → ℤ) (n : ℕ) → ((i j : ℕ) → candidate i ≡ candidate j → i ≡ j) → (except : Except) → TakesOne (λ i. takes_number (over s (candidate i)) except) n
takes_one_number s candidate n apart (Own literal) = record {
  once = λ i j hi hj ti tj. apart i j (own_one s (candidate i) (candidate j) (number_of (collapsed literal)) ((Decides-int_eq _ _).0 ti) ((Decides-int_eq _ _).0 tj));
}
takes_one_number s candidate n apart (BuiltinString literal) = record { once = λ i j hi hj ti tj. absurd (cc) }
takes_one_number s candidate n apart (BuiltinToken literal) = record { once = λ i j hi hj ti tj. absurd (cc) }
