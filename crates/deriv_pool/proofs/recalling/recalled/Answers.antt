use Rattle.std.proofs.Common.{Option, map, sym, subst}
use Rattle.rng_core.specs.Meaning.{definition_of}
use Rattle.rng_kept.specs.Merging.{answered}
use Rattle.rng_live.specs.Calls.{Answers}
use Rattle.deriv_memory.specs.Calls.{state_of}
use Rattle.deriv_states.specs.Places.{state_in}
use Rattle.deriv_pool.specs.Meaning.{IsState, means_in}
use Rattle.deriv_pool.specs.Remembering.{behind}
use Rattle.deriv_pool.specs.declared.state.PoolState.{PoolState}
use Rattle.deriv_pool.proofs.Remembering.{found_answer, found_alike}
use Rattle.deriv_pool.proofs.recalling.recalled.Goals as goal

pub returns-clause-found : goal.returns-clause-found
returns-clause-found c =
    let places = c.args.states.now in
    let memory = c.args.memory.now in
    let P : Option PoolState → Type 0 = λ r. Answers (IsState places) (means_in places)
    (answered (behind (map definition_of c.args.defs.now) memory.texts c.args.call (state_in places.states (state_of c.args.call)))) r in
    subst P (sym c.as_state.ensures)
    (found_answer (map definition_of c.args.defs.now) places memory c.args.call c.in_ok-kept.kept c.requires (sym c.in_ok-kept.ensures))

pub returns-clause-alike : goal.returns-clause-alike
returns-clause-alike c =
    found_alike (map definition_of c.args.defs.now) c.args.states.now c.args.memory.now c.args.call c.in_ok-kept.kept c.requires (sym c.in_ok-kept.ensures)
