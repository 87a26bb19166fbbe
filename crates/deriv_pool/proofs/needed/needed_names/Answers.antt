use Rattle.std.proofs.Common.{List, map, option_copied, sym, subst}
use Rattle.nx_base.specs.declared.name.Name.{Name}
use Rattle.rng_core.specs.Meaning.{definition_of}
use Rattle.rng_kept.specs.Needed.{or_none, skip_names}
use Rattle.rng_live.specs.Order.{name_order, SortsOnce}
use Rattle.deriv_states.specs.Places.{state_in}
use Rattle.deriv_pool.proofs.Kept.{found_sorts}
use Rattle.deriv_pool.proofs.needed.needed_names.Goals as goal

pub returns-clause-gives : goal.returns-clause-gives
returns-clause-gives c =
    let x = skip_names (map definition_of c.args.defs.now) (option_copied c.args.skip) (state_in c.args.states.now.states c.args.state) in
    subst (λ (ns : List Name). SortsOnce name_order (or_none x) ns) (sym c.or_no_names.ensures) (found_sorts x c.in_ok-found.found c.in_ok-found.ensures.gives)
