-- A choice with nothing is the other side.
use Rattle.std.proofs.Common.{◌≡◌, refl}
use Rattle.rng_core.specs.Patterns.{Pattern, not_allowed, empty, any_text, typed, literal, listed, attribute, ref}
use Rattle.rng_core.specs.Patterns.{one_or_more, choice, group, interleave}
use Rattle.rng_kept.specs.SmallPatterns.{choice_of}

pub choice_with_nothing : (p : Pattern) → choice_of p not_allowed ≡ p
choice_with_nothing not_allowed = refl
choice_with_nothing empty = refl
choice_with_nothing any_text = refl
choice_with_nothing (typed type excepts) = refl
choice_with_nothing (literal type text) = refl
choice_with_nothing (listed p) = refl
choice_with_nothing (attribute class p) = refl
choice_with_nothing (ref i) = refl
choice_with_nothing (one_or_more p) = refl
choice_with_nothing (choice p q) = refl
choice_with_nothing (group p q) = refl
choice_with_nothing (interleave p q) = refl
