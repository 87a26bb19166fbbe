use Rattle.rng_more_types.proofs.Around.{unspaced_is_same, ends_dont_matter}
use Rattle.rng_more_types.proofs.laws.white_space_does_not_matter.Goals as goal

pub returns-clause-unspaced : goal.returns-clause-unspaced
returns-clause-unspaced c = unspaced_is_same

pub returns-clause-ends : goal.returns-clause-ends
returns-clause-ends c = ends_dont_matter
