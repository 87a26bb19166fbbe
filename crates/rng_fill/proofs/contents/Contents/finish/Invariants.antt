use Rattle.rng_fill.specs.Contents.{definitions_in, costs_in}
use Rattle.rng_fill.specs.Heads.{AreHeads}
use Rattle.rng_fill.specs.Doing.{Continues, AreTasksOf, weight}
use Rattle.rng_fill.proofs.contents.Contents.finish.Given as goal

abbrev pub invariant-loop-task : goal.invariant-loop-task
invariant-loop-task l = record {
  continues : Continues (definitions_in l.self) l.initial.tasks.items l.tasks.items l.initial.moves l.moves;
  are : AreTasksOf (definitions_in l.self) l.tasks.items;
  heads : AreHeads (definitions_in l.self) (costs_in l.self) l.heads;
}

abbrev pub decreases-loop-task : goal.decreases-loop-task
decreases-loop-task l = weight (costs_in l.self) l.tasks.items
