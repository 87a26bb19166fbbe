use Rattle.std.proofs.Common.{arith}
use Rattle.rng_more_types.proofs.Unspaced.{next_some, next_none}
use Rattle.rng_more_types.proofs.octets.next_unspaced.Goals as goal

pub returns-in-empty-clause-none : goal.returns-in-empty-clause-none
returns-in-empty-clause-none c = next_none c.args.text.now c.without_leading_space.result.now c.without_leading_space.ensures (omega arith)

pub returns-in-len1-up-clause-some : goal.returns-in-len1-up-clause-some
returns-in-len1-up-clause-some c = next_some c.args.text.now c.without_leading_space.result.now c.without_leading_space.ensures (omega arith)
