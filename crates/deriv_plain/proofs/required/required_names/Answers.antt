use Rattle.std.proofs.Common.{List, sym, ap, subst, ◌∙◌}
use Rattle.std.specs.List.{filter}
use Rattle.nx_base.specs.declared.name.Name.{Name}
use Rattle.rng_kept.specs.Required.{is_required}
use Rattle.rng_live.specs.Calls.{AreRequired}
use Rattle.deriv_plain.specs.Ways.{residual_of}
use Rattle.rng_live.proofs.Needed.{required_exactly}
use Rattle.deriv_plain.proofs.required.required_names.Goals as goal

pub returns : goal.returns
returns c =
    let kept = c.in_ok-found.ensures ∙ ap (λ ns. filter (λ n. is_required n (residual_of c.args.ways.now)) ns) c.as_slice.ensures in
    subst (λ (ns : List Name). AreRequired (residual_of c.args.ways.now) ns) (sym c.from_vec.ensures)
    (required_exactly (residual_of c.args.ways.now) _ _ _ c.in_ok-possible.ensures kept c.sort_names.ensures)
