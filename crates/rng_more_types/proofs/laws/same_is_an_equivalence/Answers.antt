use Rattle.rng_more_types.proofs.Decided.{same_reflexive, same_symmetric, same_transitive, same_octets}
use Rattle.rng_more_types.proofs.laws.same_is_an_equivalence.Goals as goal

pub returns-clause-reflexive : goal.returns-clause-reflexive
returns-clause-reflexive c = same_reflexive

pub returns-clause-symmetric : goal.returns-clause-symmetric
returns-clause-symmetric c = same_symmetric

pub returns-clause-transitive : goal.returns-clause-transitive
returns-clause-transitive c = same_transitive

pub returns-clause-octets : goal.returns-clause-octets
returns-clause-octets c = same_octets
