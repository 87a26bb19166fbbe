use Rattle.rng_simplify.proofs.Spelling.{same_task}
use Rattle.rng_simplify.proofs.build.Builder.step.Goals as goal

pub returns-in-Wrap : goal.returns-in-Wrap
returns-in-Wrap c = same_task _ _ _ _ _ _ _ _ _ c.in-Wrap.is (c.wrap.ensures _)
