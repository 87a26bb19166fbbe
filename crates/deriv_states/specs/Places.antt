-- Patterns, what lies around elements, and states, by their numbers.
use Rattle.std.specs.Prelude.{◌≡◌, ℕ, ◌<◌, List, [], length, map, slice_index_or}
use Rattle.rng_core.specs.Patterns.{Pattern, Definition, not_allowed}
use Rattle.rng_kept.specs.Residuals.{Outer, document, Way, among, in_tag, Residual}
use Rattle.deriv_nodes.specs.Numbers.{at, Later}
use Rattle.deriv_states.specs.declared.branch.Branch.{Branch}
use Rattle.deriv_states.specs.declared.branch.Branch.TheVariants as branch
use Rattle.deriv_states.specs.Tables.{Grows}

-- what contracts see: the patterns of nodes, what may lie around elements, the states, and the contents of definitions
pub record Places : Type 0 where
  pub patterns : List Pattern
  pub outers : List Outer
  pub states : List Residual
  pub contents : List Pattern

-- the outer of a number
abbrev pub outer_in : List Outer → ℕ → Outer
outer_in outers i = slice_index_or outers i (document not_allowed)

-- the residual of a state's number
abbrev pub state_in : List Residual → ℕ → Residual
state_in states i = slice_index_or states i []

-- a way, of nodes and outers by their numbers
abbrev pub way_made : List Pattern → List Outer → Branch → Way
way_made patterns outers (branch.Among here) = among (outer_in outers here)
way_made patterns outers (branch.InTag content outer) = in_tag (at patterns content) (outer_in outers outer)

abbrev pub way_in : Places → Branch → Way
way_in places one = way_made places.patterns places.outers one

-- its numbers are those of nodes and of outers, of which there are so many
abbrev pub IsBranchBelow : ℕ → ℕ → Branch → Type 0
IsBranchBelow m n (branch.Among here) = here < n
IsBranchBelow m n (branch.InTag content outer) = (content < m) × (outer < n)

abbrev pub IsThere : Places → Branch → Type 0
IsThere places one = IsBranchBelow (length places.patterns) (length places.outers) one

-- what was there stands where it stood, and is what it was
pub record LaterPlaces (old new : Places) : Type 0 where
  pub patterns : Later old.patterns new.patterns
  pub outers : Grows (document not_allowed) old.outers new.outers
  pub states : Grows [] old.states new.states
  pub contents : new.contents ≡ old.contents

-- the number of an outer
pub record IsOuter (places : Places) (o : Outer) (i : ℕ) : Type 0 where
  pub there : i < length places.outers
  pub meaning : outer_in places.outers i ≡ o

-- a way by numbers that is this one
pub record IsWay (places : Places) (w : Way) (one : Branch) : Type 0 where
  pub there : IsThere places one
  pub meaning : way_in places one ≡ w

-- the number of a state that means this
pub record IsState (places : Places) (x : Residual) (i : ℕ) : Type 0 where
  pub there : i < length places.states
  pub meaning : state_in places.states i ≡ x

-- the contents are those of these definitions
abbrev pub AreContents : Places → List Definition → Type 0
AreContents places definitions = places.contents ≡ map (λ (d : Definition). d.content) definitions
