-- Definitions with the leaves of their contents.
use Rattle.std.specs.Prelude.{◌≡◌, ℕ, List, Some, slice_get, map}
use Rattle.rng_core.specs.Patterns.{Definition, Pattern}
use Rattle.rng_core.specs.Meaning.{definition_of}
use Rattle.rng_cost.specs.Leaves.{leaves, patterns_of}
use Rattle.rng_fill.specs.declared.contents.Contents.{Contents}

-- the definitions, and the costs by which they are filled
abbrev pub definitions_in : Contents → List Definition
definitions_in contents = map definition_of contents.defs.now

abbrev pub costs_in : Contents → List ℕ
costs_in contents = contents.costs.now

-- contents of these definitions, each with its leaves by these costs
pub record HaveLeaves (g : List Definition) (costs : List ℕ) (contents : Contents) : Type 0 where
  pub definitions : definitions_in contents ≡ g
  pub by_costs : costs_in contents ≡ costs
  pub each : map patterns_of contents.leaves ≡ map (λ d. leaves costs d.content) g

-- so of its own
abbrev pub AreRead : Contents → Type 0
AreRead contents = HaveLeaves (definitions_in contents) (costs_in contents) contents

-- patterns that are the leaves of the content of a definition
pub record AreLeavesOf (g : List Definition) (costs : List ℕ) (i : ℕ) (ps : List Pattern) : Type 0 where
  pub definition : Definition
  pub at : slice_get g i ≡ Some definition
  pub same : ps ≡ leaves costs definition.content
