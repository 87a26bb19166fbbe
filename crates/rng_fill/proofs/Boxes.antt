-- Patterns whose parts stand in boxes.
use Rattle.std.proofs.Common.{◌≡◌, ap, sym, ◌∙◌}
use Rattle.rng_core.specs.Patterns.{Pattern}

pub one_of : (f : Pattern → Pattern) {whole a c : Pattern} → whole ≡ f c → a ≡ c → whole ≡ f a
one_of f is part = is ∙ ap f (sym part)

pub two_of : (f : Pattern → Pattern → Pattern) {whole a b c d : Pattern} → whole ≡ f c d → a ≡ c → b ≡ d → whole ≡ f a b
two_of f {a = a} {d = d} is first second = is ∙ ap (λ (x : Pattern). f x d) (sym first) ∙ ap (λ (x : Pattern). f a x) (sym second)

pub one_side : (f : Pattern → Pattern → Pattern) {whole a c d : Pattern} → whole ≡ f c d → a ≡ c → whole ≡ f a d
one_side f {d = d} is first = is ∙ ap (λ (x : Pattern). f x d) (sym first)
