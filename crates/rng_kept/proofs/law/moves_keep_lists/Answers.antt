use Rattle.rng_kept.proofs.Keeping.{keeps_lists, no_paragraph_alone}
use Rattle.rng_kept.proofs.law.moves_keep_lists.Goals as goal

pub returns-clause-kept : goal.returns-clause-kept
returns-clause-kept c = keeps_lists

pub returns-clause-none : goal.returns-clause-none
returns-clause-none c = no_paragraph_alone
