-- Whole numbers between limits.
use Rattle.std.specs.Prelude.{◌≡◌, ℤ, ◌<ℤ◌, ◌≤ℤ◌, ◌↔◌, Bool, true, false, if◌then◌else◌, List, [], ◌∷◌, Option, None, Some}
use Rattle.std.proofs.Common.{refl, sym, arith}
use Rattle.std.proofs.lemmas.Bool.{and_parts, and_from, false≢true}
use Rattle.std.proofs.lemmas.Int.{ints, clamps}
use Rattle.std.specs.List.{list_all, AllByRecursion}
use Rattle.std.specs.Ordering.{int_cmp, MatchOrdering}
use Rattle.std.specs.Cmp.{int_ranks}
use Rattle.std.specs.declared.cmp.Ordering.{Ordering}
use Rattle.std.specs.declared.cmp.Ordering.TheVariants.{Less, Equal, Greater}
use Rattle.rng_types.specs.Facets.{holds}
use Rattle.rng_types.specs.NumberMembers.{Limit, is_lower, is_upper, greatest, lower_end}
use Rattle.rng_types.specs.declared.facet.Relation.{Relation}
use Rattle.rng_types.specs.declared.facet.Relation.TheVariants.{Exactly, AtLeast, AtMost, Above, Below}
use Rattle.rng_types.proofs.Scaled.{is_met}

-- what a relation says of whole numbers
abbrev pub Says : Relation → ℤ → ℤ → Type 0
Says Exactly w z = w ≡ z
Says AtLeast w z = z ≤ℤ w
Says AtMost w z = w ≤ℤ z
Says Above w z = z <ℤ w
Says Below w z = w <ℤ z

says-case : (relation : Relation) (r : Ordering) (w z : ℤ) → MatchOrdering r (w <ℤ z) (w ≡ z) (z <ℤ w) → (holds relation r ≡ true) ↔ Says relation w z
says-case Exactly Less w z h = (λ t. absurd (false≢true t), λ s. absurd (omega (arith, ints)))
says-case Exactly Equal w z h = (λ t. h, λ s. refl)
says-case Exactly Greater w z h = (λ t. absurd (false≢true t), λ s. absurd (omega (arith, ints)))
says-case AtLeast Less w z h = (λ t. absurd (false≢true t), λ s. absurd (omega (arith, ints)))
says-case AtLeast Equal w z h = (λ t. omega (arith, ints), λ s. refl)
says-case AtLeast Greater w z h = (λ t. omega (arith, ints), λ s. refl)
says-case AtMost Less w z h = (λ t. omega (arith, ints), λ s. refl)
says-case AtMost Equal w z h = (λ t. omega (arith, ints), λ s. refl)
says-case AtMost Greater w z h = (λ t. absurd (false≢true t), λ s. absurd (omega (arith, ints)))
says-case Above Less w z h = (λ t. absurd (false≢true t), λ s. absurd (omega (arith, ints)))
says-case Above Equal w z h = (λ t. absurd (false≢true t), λ s. absurd (omega (arith, ints)))
says-case Above Greater w z h = (λ t. h, λ s. refl)
says-case Below Less w z h = (λ t. h, λ s. refl)
says-case Below Equal w z h = (λ t. absurd (false≢true t), λ s. absurd (omega (arith, ints)))
says-case Below Greater w z h = (λ t. absurd (false≢true t), λ s. absurd (omega (arith, ints)))

pub met_says : (w : ℤ) (limit : Limit) → (is_met w limit ≡ true) ↔ Says limit.relation w limit.at
met_says w limit = says-case limit.relation (int_cmp w limit.at) w limit.at (int_ranks w limit.at)

-- strictly between the ends
pub says_between : (relation : Relation) (w z : ℤ) → (is_lower relation ≡ true → z <ℤ w) → (is_upper relation ≡ true → w <ℤ z) → Says relation w z
says_between Exactly w z above below = absurd (let h = above refl in let g = below refl in omega (arith, ints))
says_between AtLeast w z above below = let h = above refl in omega (arith, ints)
says_between AtMost w z above below = let h = below refl in omega (arith, ints)
says_between Above w z above below = above refl
says_between Below w z above below = below refl

-- above the lower ends, and not above what is met, all is met
between_says : (relation : Relation) (v w z : ℤ) → Says relation v z → (is_lower relation ≡ true → z <ℤ w) → w ≤ℤ v → Says relation w z
between_says Exactly v w z says above below = absurd (let h = above refl in omega (arith, ints))
between_says AtLeast v w z says above below = let h = above refl in omega (arith, ints)
between_says AtMost v w z says above below = omega (arith, ints)
between_says Above v w z says above below = above refl
between_says Below v w z says above below = omega (arith, ints)

abbrev pub IsAbove : Option ℤ → ℤ → Type 0
IsAbove None w = Unit {0}
IsAbove (Some low) w = low <ℤ w

pub above_parts : (b : Bool) (z : ℤ) (rest : Option ℤ) (w : ℤ) → IsAbove (if b then Some (greatest z rest) else rest) w → (b ≡ true → z <ℤ w) × IsAbove rest w
above_parts true z None w above = (λ _. above, tt)
above_parts true z (Some y) w above = (λ _. omega (arith, ints, clamps), omega (arith, ints, clamps))
above_parts false z rest w above = (λ no. absurd (false≢true no), above)

pub between : (limits : List Limit) (v w : ℤ) → list_all (is_met v) limits ≡ true → IsAbove (lower_end limits) w → w ≤ℤ v → list_all (is_met w) limits ≡ true
between [] v w all above below = refl
between (limit ∷ limits) v w all above below =
    let parts = and_parts _ _ all in
    let ends = above_parts (is_lower limit.relation) limit.at (lower_end limits) w above in
    and_from _ _
    ((met_says w limit).1 (between_says limit.relation v w limit.at ((met_says v limit).0 parts.0) ends.0 below))
    (between limits v w parts.1 ends.1 below)

-- what is met isn't below the greatest lower end
abbrev pub Reaches : Option ℤ → ℤ → Type 0
Reaches None v = Unit {0}
Reaches (Some low) v = low ≤ℤ v

pub lower_says : (relation : Relation) (v z : ℤ) → Says relation v z → is_lower relation ≡ true → z ≤ℤ v
lower_says Exactly v z says lower = omega (arith, ints)
lower_says AtLeast v z says lower = says
lower_says AtMost v z says lower = absurd (false≢true lower)
lower_says Above v z says lower = omega (arith, ints)
lower_says Below v z says lower = absurd (false≢true lower)

pub reaches_both : (b : Bool) (z : ℤ) (rest : Option ℤ) (v : ℤ) → (b ≡ true → z ≤ℤ v) → Reaches rest v → Reaches (if b then Some (greatest z rest) else rest) v
reaches_both true z None v first more = first refl
reaches_both true z (Some y) v first more = let h = first refl in omega (arith, ints, clamps)
reaches_both false z rest v first more = more

pub reaches : (limits : List Limit) (v : ℤ) → list_all (is_met v) limits ≡ true → Reaches (lower_end limits) v
reaches [] v all = tt
reaches (limit ∷ limits) v all =
    let parts = and_parts _ _ all in
    reaches_both (is_lower limit.relation) limit.at (lower_end limits) v (lower_says limit.relation v limit.at ((met_says v limit).0 parts.0)) (reaches limits v parts.1)

-- where there is no lower end, all is met below all of them
upper_says : (relation : Relation) (w z : ℤ) → is_lower relation ≡ false → w <ℤ z → Says relation w z
upper_says Exactly w z upper below = absurd (false≢true (sym upper))
upper_says AtLeast w z upper below = absurd (false≢true (sym upper))
upper_says AtMost w z upper below = omega (arith, ints)
upper_says Above w z upper below = absurd (false≢true (sym upper))
upper_says Below w z upper below = below

no_lower : (b : Bool) (z : ℤ) (rest : Option ℤ) → (if b then Some (greatest z rest) else rest) ≡ None → (b ≡ false) × (rest ≡ None)
no_lower true z rest none = absurd (cc)
no_lower false z rest none = (refl, none)

pub met_below : (limits : List Limit) (w : ℤ) → lower_end limits ≡ None → AllByRecursion (λ limit. w <ℤ limit.at) limits → list_all (is_met w) limits ≡ true
met_below [] w none below = refl
met_below (limit ∷ limits) w none below =
    let parts = no_lower (is_lower limit.relation) limit.at (lower_end limits) none in
    and_from _ _ ((met_says w limit).1 (upper_says limit.relation w limit.at parts.0 below.0)) (met_below limits w parts.1 below.1)
