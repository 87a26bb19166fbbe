-- A content without prohibited paths and without overlapping attributes: ISO/IEC 19757-2, sections 10.2 and 10.4.
use Rattle.std.specs.Prelude.{◌≡◌, true}
use Rattle.rng_core.specs.Patterns.{Pattern}
use Rattle.rng_restrict.specs.Attributes.{HasAttributeOverlap}
use Rattle.rng_restrict.specs.Paths.{HasPath}
use Rattle.rng_kept.specs.Lists.{has_flat_lists}
use Rattle.rng_kept.specs.Apart.{IsApart}

-- its attributes are apart, and no list stands in a list
abbrev pub RestrictedIsApart : Type 0
RestrictedIsApart = (p : Pattern) → (HasPath p → ⊥) → (HasAttributeOverlap p → ⊥) → IsApart p × (has_flat_lists p ≡ true)
