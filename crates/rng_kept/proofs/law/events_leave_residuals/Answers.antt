use Rattle.rng_kept.proofs.Residuals.{leaves_residuals, shuffles_children, shares_ways}
use Rattle.rng_kept.proofs.law.events_leave_residuals.Goals as goal

pub returns-clause-in_order : goal.returns-clause-in_order
returns-clause-in_order c = leaves_residuals

pub returns-clause-in_any_order : goal.returns-clause-in_any_order
returns-clause-in_any_order c = shuffles_children

pub returns-clause-shared : goal.returns-clause-shared
returns-clause-shared c = shares_ways
