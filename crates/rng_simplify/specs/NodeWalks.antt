-- A walk over the nodes and combined definitions of a schema, depth first, each of them behind all that it leads to.
use Rattle.std.specs.Prelude.{◌≡◌, ◌≢◌, ℕ, ◌+◌, ◌-◌, ◌*◌, ◌<◌, ◌≤◌, ◌⊎◌, Bool, true, false, List, [], ◌∷◌, ◌++◌, length}
use Rattle.std.specs.Prelude.{set, take, sum_by, count_by, slice_get, slice_index_or, Option, Some, None, Result, Ok}
use Rattle.std.specs.Prelude.{Err, Contains}
use Rattle.nx_base.specs.declared.cause.Cause.TheVariants as cause
use Rattle.rng_simplify.specs.declared.fault.SchemaFault.{SchemaFault}
use Rattle.rng_simplify.specs.declared.fault.SchemaFault.TheVariants.{NoMemory, Unreadable}
use Rattle.rng_simplify.specs.declared.order.Mark.{Mark}
use Rattle.rng_simplify.specs.declared.order.Mark.TheVariants.{New, Open, Done}
use Rattle.rng_simplify.specs.declared.order.Step.{Step}
use Rattle.rng_simplify.specs.declared.order.Walk.{Walk}
use Rattle.rng_simplify.specs.declared.resolve.Combined.{Combined}
use Rattle.rng_simplify.specs.declared.resolve.Resolved.{Resolved}
use Rattle.rng_simplify.specs.Cells.{Cell}
use Rattle.rng_simplify.specs.Cells as cell
use Rattle.rng_simplify.specs.ResolvedNodes.{leads, IsCombinedNumber}
use Rattle.rng_simplify.specs.NodePlaces.{IsStanding}

-- a node that stands in the schema, or combined definitions
abbrev pub IsMet : List Cell → ℕ → Resolved → ℕ → Type 0
IsMet cells root found i = IsStanding cells root i ⊎ IsCombinedNumber cells found i

-- a reference or a grammar, which is linked to combined definitions
abbrev pub is_linked : Cell → Bool
is_linked (cell.ref name) = true
is_linked (cell.parent_ref name) = true
is_linked (cell.grammar clauses) = true
is_linked c = false

-- ---- what the walk has done

pub record WalkState : Type 0 where
  pub marks : List Mark
  pub path : List Step
  pub order : List ℕ

abbrev pub walk_state_of : Walk → WalkState
walk_state_of walk = record { marks = walk.marks.items; path = walk.path.items; order = walk.order.items }

abbrev pub mark_at : WalkState → ℕ → Mark
mark_at now i = slice_index_or now.marks i New

abbrev pub step_of : ℕ → ℕ → Step
step_of place met = record { place = place; met = met }

-- with a further step
abbrev pub with_step : Step → WalkState → WalkState
with_step step now = record now { path = now.path ++ step ∷ [] }

-- a node is met
abbrev pub opened : ℕ → WalkState → WalkState
opened node now = record { marks = set now.marks node Open; path = now.path ++ step_of node 0 ∷ []; order = now.order }

-- all that it leads to is in the order
abbrev pub left : ℕ → WalkState → WalkState
left node now = record { marks = set now.marks node Done; path = now.path; order = now.order ++ node ∷ [] }

-- the walk comes to a node that had this mark
abbrev pub Meets : {A : Type 0} → ℕ → Mark → WalkState → WalkState → Result A SchemaFault → Type 0
Meets node New old new (Ok done) = new ≡ opened node old
Meets node Done old new (Ok done) = new ≡ old
Meets node Open old new (Ok done) = ⊥
Meets node mark old new (Err NoMemory) = Unit {0}
Meets node Open old new (Err (Unreadable cause.RefLoop)) = Unit {0}
Meets node mark old new (Err other) = ⊥

-- ---- what holds of it

-- a step of the path, with the node that comes next and the steps before: all that it met is done or comes next
pub record IsStep (cells : List Cell) (root : ℕ) (found : Resolved) (now : WalkState) (next : Option ℕ) (step : Step)
    (before : List Step) : Type 0 where
  pub is_met : IsMet cells root found step.place
  pub is_open : mark_at now step.place ≡ Open
  pub within : step.met ≤ length (leads cells found step.place)
  pub met : (k i : ℕ) → k < step.met → slice_get (leads cells found step.place) k ≡ Some i → (mark_at now i ≡ Done) ⊎ (next ≡ Some i)
  pub leads_on : (i : ℕ) → next ≡ Some i → Contains (leads cells found step.place) i
  pub apart : (other : Step) → Contains before other → other.place ≢ step.place

-- all steps, the last one first
abbrev pub AreSteps : List Cell → ℕ → Resolved → WalkState → Option ℕ → List Step → Type 0
AreSteps cells root found now next [] = Unit {0}
AreSteps cells root found now next (step ∷ before)
    = IsStep cells root found now next step before × AreSteps cells root found now (Some step.place) before

-- the path by its steps, the last one first
abbrev pub path_of : List Step → List Step
path_of [] = []
path_of (step ∷ before) = path_of before ++ step ∷ []

-- a walk that is here; a node may come next
pub record IsWalk (cells : List Cell) (root : ℕ) (found : Resolved) (next : Option ℕ) (now : WalkState) : Type 0 where
  pub steps : List Step
  pub path_is : now.path ≡ path_of steps
  pub are_steps : AreSteps cells root found now next steps
  pub next_met : (i : ℕ) → next ≡ Some i → IsMet cells root found i
  pub all_marks : length now.marks ≡ length cells + length found.combined.items
  -- the nodes of the path are open, and no others; those in the order are done, and no others
  pub on_path : (i : ℕ) → mark_at now i ≡ Open → (step : Step) × Contains steps step × (step.place ≡ i)
  pub done : (i : ℕ) → mark_at now i ≡ Done → Contains now.order i
  pub ordered : (i : ℕ) → Contains now.order i → (mark_at now i ≡ Done) × IsMet cells root found i
  pub once : (k m i : ℕ) → slice_get now.order k ≡ Some i → slice_get now.order m ≡ Some i → k ≡ m
  pub behind : (k i j : ℕ) → slice_get now.order k ≡ Some i → Contains (leads cells found i) j → Contains (take k now.order) j

-- what was met stays so
abbrev pub KeepsMarks : WalkState → WalkState → Type 0
KeepsMarks old new = (i : ℕ) → mark_at old i ≢ New → mark_at new i ≢ New

-- ---- how long it takes

abbrev pub is_new : Mark → Bool
is_new New = true
is_new Open = false
is_new Done = false

-- more than any node or combined definitions lead to
abbrev pub most : Resolved → ℕ
most found = 4 + sum_by (λ (combination : Combined). length combination.bodies.items) found.combined.items

-- what is left to do at a step
abbrev pub left_at : List Cell → Resolved → Step → ℕ
left_at cells found step = length (leads cells found step.place) + 1 - step.met

abbrev pub work : List Cell → Resolved → WalkState → ℕ
work cells found now = count_by is_new now.marks * most found + sum_by (left_at cells found) now.path

-- one turn
pub record IsTurned (cells : List Cell) (root : ℕ) (found : Resolved) (old new : WalkState) : Type 0 where
  pub is_walk : IsWalk cells root found None new
  pub keeps : KeepsMarks old new
  pub falls : work cells found new < work cells found old

-- a node and all that it leads to is in the order
pub record IsGone (cells : List Cell) (root : ℕ) (found : Resolved) (from : ℕ) (old new : WalkState) : Type 0 where
  pub is_walk : IsWalk cells root found None new
  pub at_rest : new.path ≡ []
  pub keeps : KeepsMarks old new
  pub met : mark_at new from ≢ New

-- a node was passed, and all that it leads to is in the order, if it stands in the schema
pub record IsPassed (cells : List Cell) (root : ℕ) (found : Resolved) (i : ℕ) (old new : WalkState) : Type 0 where
  pub is_walk : IsWalk cells root found None new
  pub at_rest : new.path ≡ []
  pub keeps : KeepsMarks old new
  pub met : IsStanding cells root i → mark_at new i ≢ New
