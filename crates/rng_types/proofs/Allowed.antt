-- Lengths that facets allow.
use Rattle.std.specs.Prelude.{◌≡◌, ℕ, ◌<◌, ◌≤◌, ◌↔◌, Bool, true, false, List, [], ◌∷◌}
use Rattle.std.proofs.Common.{refl, arith}
use Rattle.std.proofs.lemmas.Bool.{and_parts, and_from, false≢true}
use Rattle.std.specs.List.{list_all}
use Rattle.std.specs.Ordering.{nat_cmp}
use Rattle.std.specs.Cmp.{ranked}
use Rattle.std.specs.declared.cmp.Ordering.{Ordering}
use Rattle.std.specs.declared.cmp.Ordering.TheVariants.{Less, Equal, Greater}
use Rattle.rng_types.specs.Facets.{holds, meets, size_of}
use Rattle.rng_types.specs.TextMembers.{allows, least_from, least_length, has_length}
use Rattle.rng_types.specs.declared.kind.Form.{Form}
use Rattle.rng_types.specs.declared.facet.Relation.{Relation}
use Rattle.rng_types.specs.declared.facet.Relation.TheVariants.{Exactly, AtLeast, AtMost, Above, Below}
use Rattle.rng_types.specs.declared.facet.Facet.{Facet}
use Rattle.rng_types.specs.declared.facet.Facet.TheVariants.{Length, Bound}
use Rattle.rng_types.proofs.Digits.{Ranks}

abbrev SaysLength : Relation → ℕ → ℕ → Type 0
SaysLength Exactly k limit = k ≡ limit
SaysLength AtLeast k limit = limit ≤ k
SaysLength AtMost k limit = k ≤ limit
SaysLength Above k limit = limit < k
SaysLength Below k limit = k < limit

says-case : (relation : Relation) (r : Ordering) (k limit : ℕ) → Ranks r k limit → (holds relation r ≡ true) ↔ SaysLength relation k limit
says-case Exactly Less k limit h = (λ t. absurd (false≢true t), λ s. absurd (omega arith))
says-case Exactly Equal k limit h = (λ t. h, λ s. refl)
says-case Exactly Greater k limit h = (λ t. absurd (false≢true t), λ s. absurd (omega arith))
says-case AtLeast Less k limit h = (λ t. absurd (false≢true t), λ s. absurd (omega arith))
says-case AtLeast Equal k limit h = (λ t. omega arith, λ s. refl)
says-case AtLeast Greater k limit h = (λ t. omega arith, λ s. refl)
says-case AtMost Less k limit h = (λ t. omega arith, λ s. refl)
says-case AtMost Equal k limit h = (λ t. omega arith, λ s. refl)
says-case AtMost Greater k limit h = (λ t. absurd (false≢true t), λ s. absurd (omega arith))
says-case Above Less k limit h = (λ t. absurd (false≢true t), λ s. absurd (omega arith))
says-case Above Equal k limit h = (λ t. absurd (false≢true t), λ s. absurd (omega arith))
says-case Above Greater k limit h = (λ t. h, λ s. refl)
says-case Below Less k limit h = (λ t. h, λ s. refl)
says-case Below Equal k limit h = (λ t. absurd (false≢true t), λ s. absurd (omega arith))
says-case Below Greater k limit h = (λ t. absurd (false≢true t), λ s. absurd (omega arith))

says : (relation : Relation) (k limit : ℕ) → (holds relation (nat_cmp k limit) ≡ true) ↔ SaysLength relation k limit
says relation k limit = says-case relation (nat_cmp k limit) k limit (ranked k limit (nat_cmp k limit) refl)

least_reached : (relation : Relation) (k limit : ℕ) → SaysLength relation k limit → least_from relation limit ≤ k
least_reached Exactly k limit h = omega arith
least_reached AtLeast k limit h = h
least_reached AtMost k limit h = omega arith
least_reached Above k limit h = omega arith
least_reached Below k limit h = omega arith

least_says : (relation : Relation) (k m limit : ℕ) → SaysLength relation k limit → m ≤ k → least_from relation limit ≤ m → SaysLength relation m limit
least_says Exactly k m limit h less low = omega arith
least_says AtLeast k m limit h less low = low
least_says AtMost k m limit h less low = omega arith
least_says Above k m limit h less low = omega arith
least_says Below k m limit h less low = omega arith

least_below : (facets : List Facet) (k : ℕ) → 1 ≤ k → allows facets k ≡ true → least_length facets ≤ k
least_below [] k some all = some
least_below (Length relation limit ∷ facets) k some all =
    let parts = and_parts (holds relation (nat_cmp k limit)) (allows facets k) all in
    omega (arith, least_reached relation k limit ((says relation k limit).0 parts.0), least_below facets k some parts.1)
least_below (Bound relation limit ∷ facets) k some all = absurd (false≢true all)

pub least_some : (facets : List Facet) → 1 ≤ least_length facets
least_some [] = omega arith
least_some (Length relation limit ∷ facets) = omega (arith, least_some facets)
least_some (Bound relation limit ∷ facets) = least_some facets

allows_less : (facets : List Facet) (k m : ℕ) → allows facets k ≡ true → m ≤ k → least_length facets ≤ m → allows facets m ≡ true
allows_less [] k m all less low = refl
allows_less (Length relation limit ∷ facets) k m all less low =
    let parts = and_parts (holds relation (nat_cmp k limit)) (allows facets k) all in
    and_from _ _
    ((says relation m limit).1 (least_says relation k m limit ((says relation k limit).0 parts.0) less (omega arith)))
    (allows_less facets k m parts.1 less (omega arith))
allows_less (Bound relation limit ∷ facets) k m all less low = absurd (false≢true all)

-- some length from 1 on is allowed exactly where the least is
pub has_length-from : (facets : List Facet) (k : ℕ) → 1 ≤ k → allows facets k ≡ true → has_length facets ≡ true
has_length-from facets k some all = allows_less facets k (least_length facets) all (least_below facets k some all) (omega arith)

-- facets on lengths alone
abbrev pub is_on_length : Facet → Bool
is_on_length (Length relation limit) = true
is_on_length (Bound relation limit) = false

pub meets-lengths : (form : Form) (text : List ℕ) (facets : List Facet) → list_all is_on_length facets ≡ true → list_all (meets form text) facets ≡ allows facets (size_of form text)
meets-lengths form text [] only = refl
meets-lengths form text (Length relation limit ∷ facets) only = rw (meets-lengths form text facets only) refl
meets-lengths form text (Bound relation limit ∷ facets) only = absurd (false≢true only)
