use Rattle.std.proofs.Common.{◌≡◌, ◌∙◌, ◌++◌, List, [], ◌∷◌, ap, subst}
use Rattle.rng_fill.specs.declared.element.Task.{Task}
use Rattle.rng_fill.specs.declared.element.Task.TheVariants as task
use Rattle.rng_fill.specs.Contents.{definitions_in}
use Rattle.rng_fill.specs.Doing.{Continues}
use Rattle.rng_fill.proofs.Going.{element_done}
use Rattle.rng_fill.proofs.contents.Contents.write_element.Goals as goal

pub returns-clause-added : goal.returns-clause-added
returns-clause-added c =
    let first : c.push.new.self.items ≡ task.Element c.args.number ∷ [] =
    c.in_ok-push.ensures.items ∙ ap (λ (t : List Task). t ++ task.Element c.args.number ∷ []) c.new-tasks.ensures.items in
    element_done
    (subst (λ (t : List Task). Continues (definitions_in c.args.self.now) t [] c.args.moves.now c.finish.new.moves) first c.in_ok-finish.ensures.continues)
