-- What is left of a way, as patterns from the inside outwards.
use Rattle.std.specs.Prelude.{◌≡◌, Bool, true, List, [], ◌∷◌, Option, None, Some}
use Rattle.rng_core.specs.declared.grammar.Pat.{Pat}
use Rattle.rng_core.specs.Meaning.{pattern_of}
use Rattle.rng_core.specs.Patterns.{Pattern}
use Rattle.rng_kept.specs.Residuals.{Outer, document, inside, one_of, Way, among, in_tag}
use Rattle.rng_finish.specs.declared.left.Left.{Left}
use Rattle.rng_finish.specs.declared.left.Level.{Level}
use Rattle.rng_finish.specs.declared.left.Level.TheVariants as level

-- of each element around one view of its children is told, or that there may be none; and what is left outside of the root. Of a choice
-- it is told of the one or of the other
pub data IsPath : Outer → List Level → Pattern → Type 0 where
  at_document : {p : Pattern} → IsPath (document p) [] p
  at_void : {b l : Pattern} {v : Bool} {o : Outer} {ls : List Level} {d : Pattern} → v ≡ true → IsPath o ls d
      → IsPath (inside b l v o) (level.Void ∷ ls) d
  at_strict : {b l : Pattern} {v : Bool} {o : Outer} {ls : List Level} {d : Pattern} {p : Pat} → pattern_of p ≡ b → IsPath o ls d
      → IsPath (inside b l v o) (level.Strict p ∷ ls) d
  at_loose : {b l : Pattern} {v : Bool} {o : Outer} {ls : List Level} {d : Pattern} {p : Pat} → pattern_of p ≡ l → IsPath o ls d
      → IsPath (inside b l v o) (level.Loose p ∷ ls) d
  of_this : {o u : Outer} {ls : List Level} {d : Pattern} → IsPath o ls d → IsPath (one_of o u) ls d
  of_other : {o u : Outer} {ls : List Level} {d : Pattern} → IsPath u ls d → IsPath (one_of o u) ls d

-- in a start tag what is left of the content comes first
abbrev pub IsTagOf : Way → Option Pat → List Level → Pattern → Type 0
IsTagOf (among o) None ls d = IsPath o ls d
IsTagOf (in_tag p o) (Some pat) ls d = (pattern_of pat ≡ p) × IsPath o ls d
IsTagOf _ _ ls d = ⊥

abbrev pub IsLeftOf : Way → Left → Type 0
IsLeftOf w left = IsTagOf w left.tag left.levels.items (pattern_of left.document)
