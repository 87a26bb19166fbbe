use Rattle.rng_alone.proofs.Typing.{typed_are_alone}
use Rattle.rng_alone.proofs.law.typed_are_alone.Goals as goal

pub returns : goal.returns
returns c p t h = typed_are_alone p t h
