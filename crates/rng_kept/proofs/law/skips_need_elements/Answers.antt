use Rattle.rng_kept.proofs.Keeping.{counts_children}
use Rattle.rng_kept.proofs.Residuals.{needs_elements}
use Rattle.rng_kept.proofs.law.skips_need_elements.Goals as goal

pub returns-clause-children : goal.returns-clause-children
returns-clause-children c = counts_children

pub returns-clause-needed : goal.returns-clause-needed
returns-clause-needed c = needs_elements
