use Rattle.rng_types.proofs.Deciding.{accepts_decided, same_value_decided, takes_away_decided, left_decided}
use Rattle.rng_types.proofs.laws.answers_are_right.Goals as goal

pub returns : goal.returns
returns c = record { accepts = accepts_decided; same = same_value_decided; takes_away = takes_away_decided; left = left_decided }
