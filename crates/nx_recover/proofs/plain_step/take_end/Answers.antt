use Rattle.std.proofs.Common.{◌≡◌, ◌-◌, length, take, refl, ap, arith, ◌∙◌}
use Rattle.std.specs.Prelude.{option_copied, vec_len}
use Rattle.nx_recover.proofs.PlainSteps.{end_passes}
use Rattle.nx_recover.proofs.plain_step.take_end.Goals as goal

pub returns-clause-taken : goal.returns-clause-taken
returns-clause-taken g c = λ _.
    let elements = c.args.state.now.levels.elements in
    let size : vec_len elements ≡ length elements.items = omega (arith, elements.ok.0) in
    end_passes g.met.M.Matcher.laws c.behind_end.ensures.later c.args.state.now _ c.in-Some-innermost_name.field-0.now (option_copied c.ended_run-run.result) c.in-Some.here c.in-Some-admitted.outside
    c.in_ok-admitted.admitted c.requires.states c.in-Some.is c.ended_run-run.ensures (rw c.as_slice.ensures.value at c.in-Some-innermost_name.ensures) c.in_ok-admitted.ensures.gives c.in-Some-admitted.is
    c.end_innermost.ensures refl (c.pop.ensures.rest ∙ ap (λ n. take (n - 1) elements.items) size)
