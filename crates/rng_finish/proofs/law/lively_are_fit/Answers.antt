use Rattle.rng_finish.proofs.Fits.{lively_are_fit}
use Rattle.rng_finish.proofs.law.lively_are_fit.Goals as goal

pub returns : goal.returns
returns c = lively_are_fit c.sound_excepts_suit.ensures
