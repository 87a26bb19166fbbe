use Rattle.rng_alone.proofs.Typing.{alone_are_unmixed}
use Rattle.rng_alone.proofs.law.alone_are_unmixed.Goals as goal

pub returns : goal.returns
returns c p h = alone_are_unmixed p h
