use Rattle.rng_residual.proofs.Missing.{tags_are_told, missing_parts_go_on}
use Rattle.rng_residual.proofs.law.missing_parts_go_on.Goals as goal

pub returns-clause-told : goal.returns-clause-told
returns-clause-told c = tags_are_told

pub returns-clause-go_on : goal.returns-clause-go_on
returns-clause-go_on c = missing_parts_go_on
