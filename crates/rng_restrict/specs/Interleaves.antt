-- Interleaves: ISO/IEC 19757-2, section 10.5.
use Rattle.std.specs.Prelude.{◌≡◌, ℕ, List, Some, slice_get}
use Rattle.rng_core.specs.Names.{Overlap}
use Rattle.rng_core.specs.Patterns.{Pattern, Definition, any_text, ref, interleave}
use Rattle.rng_restrict.specs.Standing.{Stands, Occurs}
use Rattle.rng_restrict.specs.Reaching.{Somewhere}

-- both sides refer to an element with a name in common
pub data HasInterleaveOverlap (defs : List Definition) (p : Pattern) : Type 0 where
  elements_overlap : {a b : Pattern} {i j : ℕ} {d e : Definition} →
      Stands (interleave a b) p → Occurs (ref i) a → slice_get defs i ≡ Some d → Occurs (ref j) b →
      slice_get defs j ≡ Some e → Overlap d.class e.class → HasInterleaveOverlap defs p

abbrev pub BreaksInterleaveOverlap : Pattern → List Definition → Type 0
BreaksInterleaveOverlap start defs = Somewhere (HasInterleaveOverlap defs) start defs

-- text occurs in both sides
pub data HasTextTwice (p : Pattern) : Type 0 where
  text_twice : {a b : Pattern} → Stands (interleave a b) p → Occurs any_text a → Occurs any_text b → HasTextTwice p

abbrev pub BreaksTextTwice : Pattern → List Definition → Type 0
BreaksTextTwice start defs = Somewhere HasTextTwice start defs
