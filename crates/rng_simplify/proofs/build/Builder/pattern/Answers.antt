use Rattle.std.proofs.Common.{◌∷◌, [], ◌++◌, ap, ◌∙◌, List}
use Rattle.rng_simplify.specs.declared.build.Task.{Task}
use Rattle.rng_simplify.specs.declared.build.Task.TheVariants.{Spell}
use Rattle.rng_simplify.proofs.Spelling.{begun}
use Rattle.rng_simplify.proofs.build.Builder.pattern.Goals as goal

pub loop-task-init : goal.loop-task-init
loop-task-init c = begun _ _ _ _ _ _ c.requires.within (c.in_ok-push.ensures.items ∙ ap (λ (tasks : List Task). tasks ++ Spell c.args.shape ∷ []) c.new-tasks.ensures.items) c.new-built.ensures.items
