-- Laws of where simplification ends: what has no cause has a grammar.
use Rattle.std.specs.Prelude.{◌≡◌, ◌⊎◌, ℕ, List, Some, Contains, IsUtf8}
use Rattle.nx_base.specs.declared.cause.Cause.{Cause}
use Rattle.nx_host.specs.Files.{FileMap}
use Rattle.rng_core.specs.Patterns.{Pattern, Definition}
use Rattle.rng_simplify.specs.Broken.{HasBadUri, WholeIsBroken, IsBroken}
use Rattle.rng_simplify.specs.Composed.{Composed}
use Rattle.rng_simplify.specs.ComposedFiles.{Context, ComposesSchema}
use Rattle.rng_simplify.specs.Grammars.{IsSimplified}
use Rattle.rng_simplify.specs.References.{Reached}
use Rattle.rng_simplify.specs.Simplified.{Simplifies}
use Rattle.rng_simplify.specs.Unnumbered.{unnumbered}

-- a schema in one piece has a grammar, or it is broken
abbrev pub IsSimplifiedOrBroken : Composed → Type 0
IsSimplifiedOrBroken whole =
    ((start : Pattern) × (definitions : List Definition) × IsSimplified whole start definitions)
    ⊎ ((why : Cause) × WholeIsBroken whole why)

-- so it is with each, where its elements have the numbers of their definitions
abbrev pub PieceIsSimplifiedOrBroken : Type 0
PieceIsSimplifiedOrBroken = (piece : Composed) → (whole : Composed) × (unnumbered whole ≡ unnumbered piece) × IsSimplifiedOrBroken whole

-- ---- files

-- the numbers of a piece's elements are free
abbrev pub NumbersAreFree : Type 0
NumbersAreFree =
    (files : FileMap) (uri : List ℕ) (piece other : Composed) → ComposesSchema files uri piece → unnumbered other ≡ unnumbered piece →
    ComposesSchema files uri other

-- all files that are reached from the URI lie among these, are there and are text, and no bad URI stands in one
pub record AreWithin (files : FileMap) (uri : List ℕ) (uris : List (List ℕ)) : Type 0 where
  pub within : (context : Context) → Reached files uri context → Contains uris context.uri
  pub texts : (context : Context) → Reached files uri context → (bytes : List ℕ) × (files context.uri ≡ Some bytes) × IsUtf8 bytes
  pub no_bad_uri : (text : List ℕ) → HasBadUri files uri text → ⊥

-- such files define a grammar, or they are broken for a cause
abbrev pub SimplifiedOrBroken : Type 0
SimplifiedOrBroken =
    (files : FileMap) (uri : List ℕ) (uris : List (List ℕ)) → AreWithin files uri uris →
    ((start : Pattern) × (definitions : List Definition) × Simplifies files uri start definitions)
    ⊎ ((why : Cause) × IsBroken files uri why)
