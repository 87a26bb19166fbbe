use Rattle.rng_types.proofs.Token.{one_tokens_exist}
use Rattle.rng_types.proofs.laws.one_tokens_exist.Goals as goal

pub returns : goal.returns
returns c = one_tokens_exist
