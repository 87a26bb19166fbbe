-- Lists of openings, as the code keeps them.
use Rattle.std.proofs.Common.{◌≡◌, ℕ, ◌<◌, List, [], ◌∷◌, ◌++◌, length, set, get_or, Bool, true, false, ◌==◌, ◌||◌, refl, sym, ap, ◌∙◌, suc, zero, arith, ◌+◌, cond}
use Rattle.std.specs.Prelude.{if◌then◌else◌, not}
use Rattle.std.specs.List.{position_or_len, list_any}
use Rattle.std.proofs.lemmas.List.{map-append}
use Rattle.rng_core.specs.Meaning.{pattern_of}
use Rattle.rng_core.specs.Patterns.{Pattern}
use Rattle.rng_kept.specs.SmallPatterns.{choice_of}
use Rattle.rng_kept.specs.Openings.{Opening, opening, added}
use Rattle.rng_kept.specs.Entering.{has_number}
use Rattle.deriv_pattern.specs.declared.openings.Open.{Open}
use Rattle.deriv_pattern.specs.Opened.{opening_of, openings_of}

pub number_found : (i : ℕ) (os : List Open) → list_any (λ o. i == o.number) os ≡ has_number i (openings_of os)
number_found i [] = refl
number_found i (o ∷ os) = ap (λ found. (i == o.number) || found) (number_found i os)

-- the first opening isn't the one that is looked for
passed : (b : Bool) (n l : ℕ) (x y : Opening) (xs ys zs : List Opening) → cond (not b) (1 + n) 0 ≡ suc l → (n ≡ l → xs ≡ ys)
    → (if b then y ∷ zs else x ∷ xs) ≡ x ∷ ys
passed true n l x y xs ys zs h rest = absurd (omega (arith, h))
passed false n l x y xs ys zs h rest = ap (λ more. x ∷ more) (rest (omega (arith, h)))

-- it is
met : (b : Bool) (n : ℕ) (x y : Opening) (xs zs : List Opening) → cond (not b) (1 + n) 0 ≡ 0 → y ≡ x → (if b then y ∷ xs else zs) ≡ x ∷ xs
met true n x y xs zs h e = ap (λ z. z ∷ xs) e
met false n x y xs zs h e = absurd (omega (arith, h))

-- where no opening has the number, one more comes behind
added_behind : (i : ℕ) (r : Pattern) (os : List Open) → position_or_len (λ o. i == o.number) os ≡ length os
    → added i r (openings_of os) ≡ openings_of os ++ opening i r ∷ []
added_behind i r [] h = refl
added_behind i r (o ∷ os) h =
    passed (i == o.number) (position_or_len (λ p. i == p.number) os) (length os) (opening_of o) _ _ _ _ h (λ e. added_behind i r os e)

pub added_last : (os : List Open) (more : Open) → position_or_len (λ o. more.number == o.number) os ≡ length os
    → openings_of (os ++ more ∷ []) ≡ added more.number (pattern_of more.rest) (openings_of os)
added_last os more h = map-append opening_of os (more ∷ []) ∙ sym (added_behind more.number (pattern_of more.rest) os h)

-- where one has it, the rests of both are left by it
pub added_at : (i : ℕ) (r : Pattern) (os : List Open) (k : ℕ) (x d : Open) → position_or_len (λ o. i == o.number) os ≡ k → k < length os
    → opening_of x ≡ opening (get_or os k d).number (choice_of (pattern_of (get_or os k d).rest) r)
    → added i r (openings_of os) ≡ openings_of (set os k x)
added_at i r [] k x d h w e = absurd (omega (arith, w))
added_at i r (o ∷ os) zero x d h w e =
    met (i == o.number) (position_or_len (λ p. i == p.number) os) (opening_of x) _ (openings_of os) _ h (sym e)
added_at i r (o ∷ os) (suc k) x d h w e =
    passed (i == o.number) (position_or_len (λ p. i == p.number) os) k (opening_of o) _ _ _ _ h (λ f. added_at i r os k x d f (omega (arith, w)) e)
