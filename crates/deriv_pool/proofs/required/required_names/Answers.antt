use Rattle.std.proofs.Common.{List, sym, ap, subst, ◌∙◌}
use Rattle.std.specs.List.{filter}
use Rattle.nx_base.specs.declared.name.Name.{Name}
use Rattle.rng_kept.specs.Required.{is_required}
use Rattle.rng_kept.specs.Residuals.{Residual}
use Rattle.rng_live.specs.Calls.{AreRequired}
use Rattle.rng_live.proofs.Needed.{required_exactly}
use Rattle.deriv_states.specs.Places.{state_in}
use Rattle.deriv_pool.proofs.required.required_names.Goals as goal

pub returns : goal.returns
returns c =
    let x : Residual = state_in c.args.states.now.states c.args.state in
    let kept = c.in_ok-found.ensures ∙ ap (λ ns. filter (λ n. is_required n x) ns) c.as_slice.ensures in
    subst (λ (ns : List Name). AreRequired x ns) (sym c.from_vec.ensures)
    (required_exactly x _ _ _ c.in_ok-possible.ensures kept c.sort_names.ensures)
