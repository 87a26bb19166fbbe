use Rattle.rng_more_types.proofs.Blank.{blank_is_empty, empty_is_blank, moment_is_something, same_are_blank_alike}
use Rattle.rng_more_types.proofs.laws.blank_is_empty.Goals as goal

pub returns-clause-empty : goal.returns-clause-empty
returns-clause-empty c = blank_is_empty

pub returns-clause-blank : goal.returns-clause-blank
returns-clause-blank c = empty_is_blank

pub returns-clause-something : goal.returns-clause-something
returns-clause-something c = moment_is_something

pub returns-clause-alike : goal.returns-clause-alike
returns-clause-alike c = same_are_blank_alike
