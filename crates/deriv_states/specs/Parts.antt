-- How outers and states are put together of numbers.
use Rattle.std.specs.Prelude.{ℕ, ◌<◌, List, [], ◌∷◌, length, map}
use Rattle.std.specs.List.{AllByRecursion}
use Rattle.rng_core.specs.Patterns.{Pattern}
use Rattle.rng_kept.specs.Residuals.{Outer, document, inside, one_of, Residual}
use Rattle.deriv_nodes.specs.Numbers.{at}
use Rattle.deriv_nodes.specs.Reading.{AreOnce}
use Rattle.deriv_states.specs.declared.around.Around.{Around}
use Rattle.deriv_states.specs.declared.around.Around.TheVariants as around
use Rattle.deriv_states.specs.declared.branch.Row.{Row}
use Rattle.deriv_states.specs.declared.branch.Row.TheVariants as row
use Rattle.deriv_states.specs.Tables.{wholes_of, AreOrdered}
use Rattle.deriv_states.specs.Places.{Places, outer_in, state_in, way_made, IsBranchBelow}

abbrev pub outer_made : List Pattern → List Outer → Around → Outer
outer_made patterns outers (around.Document rest) = document (at patterns rest)
outer_made patterns outers (around.Inside strict loose void outer) =
    inside (at patterns strict) (at patterns loose) void (outer_in outers outer)
outer_made patterns outers (around.OneOf this other) = one_of (outer_in outers this) (outer_in outers other)

abbrev pub state_made : List Pattern → List Outer → List Residual → Row → Residual
state_made patterns outers states row.End = []
state_made patterns outers states (row.Way one more) = way_made patterns outers one ∷ state_in states more

abbrev pub outers_of : List Pattern → List Around → List Outer
outers_of patterns arounds = wholes_of (outer_made patterns) arounds

abbrev pub states_of : List Pattern → List Outer → List Row → List Residual
states_of patterns outers rows = wholes_of (state_made patterns outers) rows

-- parts are nodes, of which there are so many, and outers that stand before a place
abbrev pub IsAroundBelow : ℕ → ℕ → Around → Type 0
IsAroundBelow m n (around.Document rest) = rest < m
IsAroundBelow m n (around.Inside strict loose void outer) = (strict < m) × (loose < m) × (outer < n)
IsAroundBelow m n (around.OneOf this other) = (this < n) × (other < n)

-- parts are nodes and outers, and a state that stands before a place
abbrev pub IsRowBelow : ℕ → ℕ → ℕ → Row → Type 0
IsRowBelow m n k row.End = Unit {0}
IsRowBelow m n k (row.Way one more) = IsBranchBelow m n one × (more < k)

-- numbers of nodes
abbrev pub AreBelow : ℕ → List ℕ → Type 0
AreBelow m numbers = AllByRecursion (λ number. number < m) numbers

-- each stands behind its parts, and no two are put together alike
pub record AreTables (patterns : List Pattern) (arounds : List Around) (rows : List Row) (contents : List ℕ) : Type 0 where
  pub arounds_ordered : AreOrdered (IsAroundBelow (length patterns)) 0 arounds
  pub rows_ordered : AreOrdered (IsRowBelow (length patterns) (length arounds)) 0 rows
  pub arounds_once : AreOnce arounds
  pub rows_once : AreOnce rows
  pub contents_below : AreBelow (length patterns) contents

abbrev pub contents_in : List Pattern → List ℕ → List Pattern
contents_in patterns contents = map (at patterns) contents

-- what is kept, as contracts see it
abbrev pub places_of : List Pattern → List Around → List Row → List ℕ → Places
places_of patterns arounds rows contents = record {
  patterns = patterns;
  outers = outers_of patterns arounds;
  states = states_of patterns (outers_of patterns arounds) rows;
  contents = contents_in patterns contents;
}
