use Rattle.rng_types.proofs.Token.{lone_is_token, two_no_token}
use Rattle.rng_types.proofs.one_token.lone_word.Goals as goal

pub returns-in-None : goal.returns-in-None
returns-in-None c = lone_is_token c.args.bytes.now c.in-Some.word.now c.in-Some.rest.now c.in-Some.ensures.some c.in-None.ensures.none

pub returns-in-Some-first_word_of : goal.returns-in-Some-first_word_of
returns-in-Some-first_word_of c = two_no_token c.args.bytes.now c.in-Some.word.now c.in-Some.rest.now _ _ c.in-Some.ensures.some c.in-Some-first_word_of.ensures.some
