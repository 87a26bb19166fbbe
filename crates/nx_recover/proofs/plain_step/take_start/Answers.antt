use Rattle.std.proofs.Common.{[], ◌∷◌, ◌++◌, refl, ap, ◌∙◌}
use Rattle.std.specs.Prelude.{option_copied}
use Rattle.nx_recover.specs.declared.levels.Open.TheVariants.{In}
use Rattle.nx_recover.specs.PlainSteps.{listed_if}
use Rattle.nx_recover.proofs.PlainSteps.{start_passes}
use Rattle.nx_recover.proofs.plain_step.take_start.Goals as goal

pub returns-clause-taken : goal.returns-clause-taken
returns-clause-taken g c = λ _.
    let name = c.put_unprefixed_name.new.name in
    start_passes g.met.M.Matcher.laws c.behind_start.ensures.later c.args.state.now _ c.args.written.now name (listed_if (option_copied c.args.attributes)) (option_copied c.ended_run-run.result) c.in-Some.here c.in-Some-admitted.inside
    c.in_ok-admitted.admitted c.requires.states c.in-Some.is c.ended_run-run.ensures c.in_ok-put_unprefixed_name.ensures c.in_ok-admitted.ensures.gives c.in-Some-admitted.is
    c.in_ok-begin_element.ensures.ok refl (rw (c.inside.ensures ∙ ap (λ n. In n) c.in_ok-kept.ensures) at c.push_reserved.ensures.items ∙ ap (λ xs. xs ++ In name ∷ []) c.in_ok-reserve.ensures.items)
