-- What the calls of a matcher answer, told of residuals.
use Rattle.std.specs.Prelude.{◌≡◌, ◌↔◌, Bool, ◌&&◌, List, Option, None, Some, IfSome, IsTrue, option_map, Contains, if◌then◌else◌}
use Rattle.std.specs.List.Sorted.{IsStrictlySortedBy}
use Rattle.nx_base.specs.declared.name.Name.{Name}
use Rattle.rng_core.specs.Patterns.{Language}
use Rattle.rng_kept.specs.SmallPatterns.{is_not_allowed}
use Rattle.rng_kept.specs.Residuals.{Residual, is_in_tag}
use Rattle.rng_kept.specs.Required.{is_required}
use Rattle.rng_kept.specs.Standing.{first_residual, known}
use Rattle.rng_live.specs.Order.{name_order}

-- a state is given that means this
pub record Gives {S : Type 0} (is_state : S → Type 0) (means : S → Residual) (x : Residual) (s : S) : Type 0 where
  pub state : is_state s
  pub meaning : means s ≡ x

-- a state is given that means what is answered, and none where nothing is
pub record Answers {S : Type 0} (is_state : S → Type 0) (means : S → Residual) (answer : Option Residual) (given : Option S) : Type 0 where
  pub state : IfSome given is_state
  pub meaning : option_map means given ≡ answer

-- where a frame begins that has the definitions with a name as its start; none where no definition has it
abbrev pub begin_known : Language → Name → Option Residual
begin_known g n = if is_not_allowed (known g n) then None else Some (first_residual (known g n))

-- the names of which an attribute is required, in order; none where no start tag is open
pub record AreRequired (x : Residual) (names : List Name) : Type 0 where
  pub sorted : IsStrictlySortedBy name_order names
  pub exact : (n : Name) → Contains names n ↔ IsTrue (is_in_tag x && is_required n x)

-- ---- calls that are remembered

-- a call that a matcher may remember
pub data Call : Type 0 where
  call_enter : Name → Call
  call_tag_end : Call
  call_leave : Call

-- a later matcher remembers what an earlier one did
abbrev pub KeepsMemory : {M : Type 0} → (M → M → Type 0) → (M → Residual → Call → Type 0) → Type 0
KeepsMemory {M} later remembers = (m l : M) (x : Residual) (call : Call) → later m l → remembers m x call → remembers l x call
