use Rattle.std.proofs.Common.{List, subst}
use Rattle.rng_fill.specs.declared.element.Task.{Task}
use Rattle.rng_fill.specs.Contents.{definitions_in, costs_in}
use Rattle.rng_fill.specs.Doing.{Begins}
use Rattle.rng_fill.proofs.Going.{inside_done}
use Rattle.rng_fill.proofs.contents.Contents.write_inside.Goals as goal

pub returns-clause-added : goal.returns-clause-added
returns-clause-added c =
    inside_done
    (subst (λ (t : List Task). Begins (definitions_in c.args.self.now) (costs_in c.args.self.now) c.args.number t c.begin.new.tasks.items
    c.args.moves.now c.begin.new.moves) c.new-tasks.ensures.items c.in_ok-begin.ensures)
    c.in_ok-finish.ensures.continues
