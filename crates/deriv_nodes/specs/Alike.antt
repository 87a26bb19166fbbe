-- Leaves that are alike.
use Rattle.std.specs.Prelude.{◌≡◌, ℕ, Bool, true, List, []}
use Rattle.std.proofs.Common.{ap}
use Rattle.std.specs.Cmp.{IsEquivalence, decided, on_equiv}
use Rattle.std.specs.Hash as fed
use Rattle.rng_core.specs.Meaning.{pattern_of}
use Rattle.rng_core.specs.Equality.{same_pattern}
use Rattle.rng_core.specs.Names.{Class, the_name}
use Rattle.rng_core.specs.Patterns.{Pattern, literal, attribute}
use Rattle.rng_core.proofs.Same.{patterns_decided}
use Rattle.deriv_nodes.specs.declared.leaf.Leaf.{Leaf}

abbrev pub class_digest_of : Class → List ℕ
class_digest_of (the_name n) = n.local
class_digest_of class = []

-- what leaves are told apart by at first
abbrev pub digest_of : Pattern → List ℕ
digest_of (literal type text) = text
digest_of (attribute class p) = class_digest_of class
digest_of p = []

abbrev pub same_leaf : Leaf → Leaf → Bool
same_leaf a b = same_pattern (pattern_of a.pattern) (pattern_of b.pattern)

pub leaves_laws : IsEquivalence same_leaf
leaves_laws = on_equiv (λ (leaf : Leaf). pattern_of leaf.pattern) (decided same_pattern patterns_decided)

pub leaves_hash : (a b : Leaf) → same_leaf a b ≡ true
    → fed.slice fed.u8 (digest_of (pattern_of a.pattern)) ≡ fed.slice fed.u8 (digest_of (pattern_of b.pattern))
leaves_hash a b same = ap (λ p. fed.slice fed.u8 (digest_of p)) ((patterns_decided (pattern_of a.pattern) (pattern_of b.pattern)).0 same)
