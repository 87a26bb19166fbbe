use Rattle.std.proofs.Common.{refl}
use Rattle.rng_live.proofs.Spelled.{defined}
use Rattle.rng_live.proofs.life.Conditions.add_definition.Goals as goal

pub returns : goal.returns
returns c = defined c.requires.inside c.has_some_name-named.ensures c.in_ok-root.ensures refl
