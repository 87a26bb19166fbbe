-- The greatest lower end, from the first limit on, and whole numbers behind it.
use Rattle.std.specs.Prelude.{◌≡◌, ℕ, ◌+◌, ◌-◌, ◌^◌, ◌<◌, ◌≤◌, ℤ, pos, negsuc, ◌+ℤ◌, ◌-ℤ◌, ◌<ℤ◌, Bool, true, false, ◌==◌, ◌&&◌, if◌then◌else◌, List, [], ◌∷◌, Option, None, Some}
use Rattle.std.proofs.Common.{refl, sym, ap, ◌∙◌, arith}
use Rattle.std.proofs.lemmas.Bool.{and_parts, and_from, ne_eqb, eq-eqb}
use Rattle.std.proofs.lemmas.Int.{ints, clamps}
use Rattle.std.specs.Int.{int_max}
use Rattle.std.specs.Str.{is_utf8}
use Rattle.std.specs.Ordering.{nat_cmp, int_cmp, is_eq, MatchOrdering}
use Rattle.std.specs.Cmp.{nat_cmp_is, int_ranks, ranked}
use Rattle.std.specs.declared.cmp.Ordering.{Ordering}
use Rattle.std.specs.declared.cmp.Ordering.TheVariants.{Less, Equal, Greater}
use Rattle.rng_types.specs.Spaces.{collapsed}
use Rattle.rng_types.specs.Numbers.{number_of, times, is_integer, is_decimal}
use Rattle.rng_types.specs.Facets.{holds}
use Rattle.rng_types.specs.Offsets.{whole_number, offset_of}
use Rattle.rng_types.specs.NumberMembers.{Limit, over, is_number_met, takes_number, is_lower, greatest, raised, lower_end}
use Rattle.rng_types.specs.declared.facet.Relation.{Relation}
use Rattle.rng_types.specs.declared.facet.Facet.TheVariants.{Bound}
use Rattle.rng_types.specs.declared.datatype.Except.TheVariants.{Own}
use Rattle.rng_types.proofs.Comparing.{decimal_from_integer}
use Rattle.rng_types.proofs.Literals.{places-integer}
use Rattle.rng_types.proofs.Scaled.{met-over, compared_over}

greatest_swap : (x y : ℤ) (end : Option ℤ) → greatest x (Some (greatest y end)) ≡ greatest y (Some (greatest x end))
greatest_swap x y None = omega (arith, ints, clamps)
greatest_swap x y (Some z) = omega (arith, ints, clamps)

swap_case : (a b : Bool) (x y : ℤ) (end : Option ℤ) →
    (if b then Some (greatest y (if a then Some (greatest x end) else end)) else (if a then Some (greatest x end) else end))
    ≡ (if a then Some (greatest x (if b then Some (greatest y end) else end)) else (if b then Some (greatest y end) else end))
swap_case true true x y end = ap (λ (z : ℤ). Some z) (greatest_swap y x end)
swap_case true false x y end = refl
swap_case false true x y end = refl
swap_case false false x y end = refl

raised_swap : (end : Option ℤ) (l m : Limit) → raised (raised end l) m ≡ raised (raised end m) l
raised_swap end l m = swap_case (is_lower l.relation) (is_lower m.relation) l.at m.at end

-- the greatest of these and an end so far
abbrev pub raised_by : Option ℤ → List Limit → Option ℤ
raised_by end [] = end
raised_by end (limit ∷ limits) = raised_by (raised end limit) limits

raised_first : (end : Option ℤ) (limit : Limit) (limits : List Limit) → raised_by (raised end limit) limits ≡ raised (raised_by end limits) limit
raised_first end limit [] = refl
raised_first end limit (m ∷ limits) = ap (λ e. raised_by e limits) (raised_swap end limit m) ∙ raised_first (raised end m) limit limits

pub raised_by_all : (limits : List Limit) → raised_by None limits ≡ lower_end limits
raised_by_all [] = refl
raised_by_all (limit ∷ limits) = raised_first None limit limits ∙ ap (λ e. raised e limit) (raised_by_all limits)

-- the end of an integer's bound is the number of its literal
pub end_whole : (limit : List ℕ) → times (number_of limit) (10 ^ (0 - (number_of limit).places)) ≡ whole_number limit
end_whole limit = let none : 0 - (number_of limit).places ≡ 0 = omega arith in ap (λ n. times (number_of limit) (10 ^ n)) none

-- a number a little above the end compares with others by how far they are above it
rank_case : (r : Ordering) (d low z : ℤ) (i : ℕ) → d ≡ z -ℤ low → i < 1000 → MatchOrdering r ((low +ℤ pos i) <ℤ z) ((low +ℤ pos i) ≡ z) (z <ℤ (low +ℤ pos i)) →
    MatchOrdering r (1000 + i < offset_of d) (1000 + i ≡ offset_of d) (offset_of d < 1000 + i)
rank_case Less (pos n) low z i is small h = let g : i < n = omega (arith, ints, is, h) in omega arith
rank_case Less (negsuc n) low z i is small h = absurd (omega (arith, ints, is, h))
rank_case Equal (pos n) low z i is small h = let g : i ≡ n = omega (arith, ints, is, h) in omega arith
rank_case Equal (negsuc n) low z i is small h = absurd (omega (arith, ints, is, h))
rank_case Greater (pos n) low z i is small h = let g : n < i = omega (arith, ints, is, h) in omega arith
rank_case Greater (negsuc n) low z i is small h = omega arith

cmp_offset : (low z : ℤ) (i : ℕ) → i < 1000 → int_cmp (low +ℤ pos i) z ≡ nat_cmp (1000 + i) (offset_of (z -ℤ low))
cmp_offset low z i small = nat_cmp_is _ _ (int_cmp (low +ℤ pos i) z) (rank_case (int_cmp (low +ℤ pos i) z) (z -ℤ low) low z i refl small (int_ranks (low +ℤ pos i) z))

pub met_by_offset : (low : ℤ) (i : ℕ) (relation : Relation) (limit : List ℕ) → is_integer limit ≡ true → i < 1000 →
    holds relation (nat_cmp (1000 + i) (offset_of (whole_number limit -ℤ low))) ≡ is_number_met (over 0 (low +ℤ pos i)) (Bound relation limit)
met_by_offset low i relation limit integer small =
    ap (holds relation) (sym (cmp_offset low (whole_number limit) i small))
    ∙ ap (λ z. holds relation (int_cmp (low +ℤ pos i) z)) (sym (end_whole limit))
    ∙ sym (met-over 0 (low +ℤ pos i) relation limit (omega (arith, places-integer limit integer)))

eq_case : (r : Ordering) (m n : ℕ) → MatchOrdering r (m < n) (m ≡ n) (n < m) → is_eq r ≡ (n == m)
eq_case Less m n h = sym (ne_eqb n m (λ same. absurd (omega (arith, same))))
eq_case Equal m n h = sym (eq-eqb n m (sym h))
eq_case Greater m n h = sym (ne_eqb n m (λ same. absurd (omega (arith, same))))

eq_cmp : (m n : ℕ) → is_eq (nat_cmp m n) ≡ (n == m)
eq_cmp m n = eq_case (nat_cmp m n) m n (ranked m n (nat_cmp m n) refl)

-- and is the same as another where it is as far above
pub taken_by_offset : (low : ℤ) (i : ℕ) (literal : List ℕ) → is_integer (collapsed literal) ≡ true → i < 1000 →
    (offset_of (whole_number (collapsed literal) -ℤ low) == 1000 + i) ≡ takes_number (over 0 (low +ℤ pos i)) (Own literal)
taken_by_offset low i literal integer small =
    let text : List ℕ = collapsed literal in
    sym (eq_cmp (1000 + i) (offset_of (whole_number text -ℤ low)))
    ∙ ap is_eq (sym (cmp_offset low (whole_number text) i small))
    ∙ ap (λ z. is_eq (int_cmp (low +ℤ pos i) z)) (sym (end_whole text))
    ∙ ap is_eq (sym (compared_over 0 (low +ℤ pos i) text (omega (arith, places-integer text integer))))

first_case : (d x y : ℤ) → d ≡ y -ℤ x → offset_of d < 1000 → x ≡ int_max x y
first_case (pos n) x y is below = absurd (omega arith)
first_case (negsuc n) x y is below = omega (arith, ints, clamps, is)

second_case : (d x y : ℤ) → d ≡ y -ℤ x → 1000 ≤ offset_of d → y ≡ int_max x y
second_case (pos n) x y is above = omega (arith, ints, clamps, is)
second_case (negsuc n) x y is above = absurd (omega arith)

pub greater_first : (x y : ℤ) → offset_of (y -ℤ x) < 1000 → x ≡ int_max x y
greater_first x y below = first_case (y -ℤ x) x y refl below

pub greater_second : (x y : ℤ) → 1000 ≤ offset_of (y -ℤ x) → y ≡ int_max x y
greater_second x y above = second_case (y -ℤ x) x y refl above

pub decimal_literal : (literal : List ℕ) → (is_utf8 literal && is_integer (collapsed literal)) ≡ true → (is_utf8 literal && is_decimal (collapsed literal)) ≡ true
decimal_literal literal integer = let parts = and_parts (is_utf8 literal) (is_integer (collapsed literal)) integer in and_from _ _ parts.0 (decimal_from_integer (collapsed literal) parts.1)
