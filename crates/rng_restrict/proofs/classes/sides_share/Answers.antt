use Rattle.std.proofs.Common.{refl}
use Rattle.rng_core.specs.Meaning.{class_of}
use Rattle.rng_restrict.proofs.Sides.{sides_exactly}
use Rattle.rng_restrict.proofs.classes.sides_share.Goals as goal

pub returns : goal.returns
returns c = sides_exactly (λ x. class_of x.now) c.args.classes.now _ _ c.args.before c.args.between c.any_share.result refl refl c.any_share.ensures
