use Rattle.rng_fill.proofs.Living.{filled_where_not_large}
use Rattle.rng_fill.proofs.law.filled_where_not_large.Goals as goal

pub returns : goal.returns
returns c = filled_where_not_large c.sound_excepts_suit.ensures
