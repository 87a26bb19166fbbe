use Rattle.rng_widen.proofs.Held.{wider_types_are_wider, some_form_takes_all}
use Rattle.rng_widen.proofs.law.wider_types_are_wider.Goals as goal

pub returns-clause-wider : goal.returns-clause-wider
returns-clause-wider c = wider_types_are_wider

pub returns-clause-takes_all : goal.returns-clause-takes_all
returns-clause-takes_all c = some_form_takes_all
