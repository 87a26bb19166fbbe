-- Whether two patterns are one, as the answer of the call that tells it.
use Rattle.std.proofs.Common.{◌≡◌, Bool, true, false, refl, sym}
use Rattle.std.specs.Prelude.{IsTrue, ◌↔◌}
use Rattle.rng_core.specs.Patterns.{Pattern}
use Rattle.rng_core.specs.Equality.{same_pattern}
use Rattle.rng_core.proofs.Same.{patterns_decided}

both_ways : (found test : Bool) → (found ≡ true → test ≡ true) → (test ≡ true → found ≡ true) → found ≡ test
both_ways true test to from = sym (to refl)
both_ways false true to from = from refl
both_ways false false to from = refl

pub pattern_answer : (p q : Pattern) (found : Bool) → (IsTrue found ↔ (p ≡ q)) → found ≡ same_pattern p q
pattern_answer p q found is =
    both_ways found (same_pattern p q) (λ t. (patterns_decided p q).1 (is.0 t)) (λ t. is.1 ((patterns_decided p q).0 t))
