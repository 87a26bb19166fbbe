-- What the states of a matcher mean, and which matchers are later.
use Rattle.std.specs.Prelude.{◌≡◌}
use Rattle.rng_core.specs.Patterns.{Language}
use Rattle.rng_kept.specs.Residuals.{Residual}
use Rattle.rng_live.specs.Schemas.{schema_language}
use Rattle.deriv_states.specs.Places.{LaterPlaces}
use Rattle.rng_live.specs.Calls.{Call}
use Rattle.deriv_pool.specs.Meaning.{IsState, means_in}
use Rattle.deriv_pool.specs.Remembering.{KeepsNoted, Remembers}
use Rattle.deriv_pool.specs.declared.pool.Pool.{Pool}
use Rattle.deriv_pool.specs.declared.state.PoolState.{PoolState}

abbrev pub IsStateOf : Pool → PoolState → Type 0
IsStateOf m s = IsState m.states s

abbrev pub meaning_of : Pool → PoolState → Residual
meaning_of m s = means_in m.states s

abbrev pub language_in : Pool → Language
language_in m = schema_language m.schema

-- the answer of a call on a state of this meaning is kept
abbrev pub remembers_in : Pool → Residual → Call → Type 0
remembers_in m x call = Remembers m.states m.memory x call

-- of the same schema, with all that was there and all that was remembered
pub record IsLater (m l : Pool) : Type 0 where
  pub schema : l.schema ≡ m.schema
  pub states : LaterPlaces m.states l.states
  pub memory : KeepsNoted m.memory l.memory
