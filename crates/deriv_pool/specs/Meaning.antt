-- What states of the matcher mean.
use Rattle.std.specs.Prelude.{◌<◌, length}
use Rattle.rng_kept.specs.Residuals.{Residual}
use Rattle.deriv_states.specs.Places.{Places, state_in}
use Rattle.deriv_pool.specs.declared.state.PoolState.{PoolState}

abbrev pub IsState : Places → PoolState → Type 0
IsState places s = s.number < length places.states

abbrev pub means_in : Places → PoolState → Residual
means_in places s = state_in places.states s.number
