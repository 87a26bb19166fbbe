-- those found and those of the names that are left
use Rattle.std.proofs.Common.{◌≡◌, ◌++◌, length}
use Rattle.std.specs.List.{filter}
use Rattle.rng_kept.specs.Required.{is_required}
use Rattle.deriv_states.specs.Places.{state_in}
use Rattle.deriv_pool.proofs.required.required_among.Given as goal

abbrev pub invariant-loop-name : goal.invariant-loop-name
invariant-loop-name l = l.found.items ++ filter (λ n. is_required n (state_in l.states.states l.state)) l.left
    ≡ filter (λ n. is_required n (state_in l.states.states l.state)) l.names

abbrev pub decreases-loop-name : goal.decreases-loop-name
decreases-loop-name l = length l.left
