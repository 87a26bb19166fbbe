-- Calls whose answers are kept.
use Rattle.std.specs.Prelude.{◌≡◌, ℕ, ◌<◌, List, [], length, slice_index_or, true, false, is_some, Option, Some, option_map, codes}
use Rattle.nx_base.specs.declared.name.Name.{Name}
use Rattle.rng_core.specs.Patterns.{Definition}
use Rattle.rng_kept.specs.Residuals.{Residual}
use Rattle.rng_kept.specs.Merging.{answered}
use Rattle.rng_kept.specs.Entering.{enter}
use Rattle.rng_kept.specs.Tags.{attribute_of, tag_end}
use Rattle.rng_kept.specs.Content.{chars, leave}
use Rattle.rng_live.specs.Calls.{Answers, Call, call_enter, call_tag_end, call_leave}
use Rattle.deriv_states.specs.Places.{Places, state_in, IsState as IsNumber}
use Rattle.deriv_states.specs.Telling.{tells_texts, tells_values_of}
use Rattle.deriv_memory.specs.declared.asked.Asked.{Asked}
use Rattle.deriv_memory.specs.declared.asked.Asked.TheVariants as calls
use Rattle.deriv_memory.specs.Calls.{state_of}
use Rattle.deriv_memory.specs.Remembered.{Remembered, noted, IsName, TextsGrow}
use Rattle.deriv_pool.specs.Meaning.{IsState, means_in}
use Rattle.deriv_pool.specs.declared.state.PoolState.{PoolState}

-- the name of which these are the numbers
abbrev pub name_in : List (List ℕ) → ℕ → ℕ → Name
name_in texts ns local = record { ns = slice_index_or texts ns []; local = slice_index_or texts local [] }

-- a string of each kind
abbrev pub a_blank : List ℕ
a_blank = []

abbrev pub a_solid : List ℕ
a_solid = codes "x"

-- the residual behind a call
abbrev pub behind : List Definition → List (List ℕ) → Asked → Residual → Residual
behind g texts (calls.Enter s ns local) x = enter g (name_in texts ns local) x
behind g texts (calls.TagEnd s) x = tag_end x
behind g texts (calls.Leave s) x = leave x
behind g texts (calls.Blank s) x = chars a_blank x
behind g texts (calls.Solid s) x = chars a_solid x
behind g texts (calls.BlankValue s ns local) x = attribute_of (name_in texts ns local) a_blank x
behind g texts (calls.SolidValue s ns local) x = attribute_of (name_in texts ns local) a_solid x

-- the residual tells no string of the call's kind from another
abbrev pub IsAlike : List (List ℕ) → Asked → Residual → Type 0
IsAlike texts (calls.Enter s ns local) x = Unit {0}
IsAlike texts (calls.TagEnd s) x = Unit {0}
IsAlike texts (calls.Leave s) x = Unit {0}
IsAlike texts (calls.Blank s) x = tells_texts x ≡ false
IsAlike texts (calls.Solid s) x = tells_texts x ≡ false
IsAlike texts (calls.BlankValue s ns local) x = tells_values_of (name_in texts ns local) x ≡ false
IsAlike texts (calls.SolidValue s ns local) x = tells_values_of (name_in texts ns local) x ≡ false

-- the numbers of a call are those of a state and of parts of names
abbrev pub IsAsked : Places → List (List ℕ) → Asked → Type 0
IsAsked places texts (calls.Enter s ns local) = (s < length places.states) × ((ns < length texts) × (local < length texts))
IsAsked places texts (calls.TagEnd s) = s < length places.states
IsAsked places texts (calls.Leave s) = s < length places.states
IsAsked places texts (calls.Blank s) = s < length places.states
IsAsked places texts (calls.Solid s) = s < length places.states
IsAsked places texts (calls.BlankValue s ns local) = (s < length places.states) × ((ns < length texts) × (local < length texts))
IsAsked places texts (calls.SolidValue s ns local) = (s < length places.states) × ((ns < length texts) × (local < length texts))

abbrev pub as_states : Option ℕ → Option PoolState
as_states answer = option_map (λ (n : ℕ). record { number = n }) answer

-- what is kept is what the call answers, by whatever string of its kind
pub record IsAnswer (g : List Definition) (places : Places) (texts : List (List ℕ)) (call : Asked) (answer : Option ℕ) : Type 0 where
  pub asked : IsAsked places texts call
  pub alike : IsAlike texts call (state_in places.states (state_of call))
  pub gives : Answers (IsState places) (means_in places) (answered (behind g texts call (state_in places.states (state_of call)))) (as_states answer)

abbrev pub AreAnswers : List Definition → Places → Remembered → Type 0
AreAnswers g places memory = (call : Asked) (answer : Option ℕ) → noted memory call ≡ Some answer → IsAnswer g places memory.texts call answer

-- numbers that stand for a call on a state that means this
abbrev pub Asks : Places → List (List ℕ) → Asked → Residual → Call → Type 0
Asks places texts (calls.Enter s ns local) x call = IsNumber places x s × ((n : Name) × ((call ≡ call_enter n) × IsName texts n (ns, local)))
Asks places texts (calls.TagEnd s) x call = IsNumber places x s × (call ≡ call_tag_end)
Asks places texts (calls.Leave s) x call = IsNumber places x s × (call ≡ call_leave)
Asks places texts other x call = ⊥

-- a call of which the answer is kept
pub record Remembers (places : Places) (memory : Remembered) (x : Residual) (call : Call) : Type 0 where
  pub asked : Asked
  pub asks : Asks places memory.texts asked x call
  pub kept : is_some (noted memory asked) ≡ true

-- names keep their numbers, and of calls of which something was noted something is noted still
pub record KeepsNoted (old new : Remembered) : Type 0 where
  pub texts : TextsGrow old.texts new.texts
  pub calls : (call : Asked) → is_some (noted old call) ≡ true → is_some (noted new call) ≡ true
