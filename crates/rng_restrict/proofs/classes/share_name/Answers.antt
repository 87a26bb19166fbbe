use Rattle.rng_core.specs.Meaning.{class_of}
use Rattle.rng_restrict.proofs.Sides.{share_name_exactly}
use Rattle.rng_restrict.proofs.classes.share_name.Goals as goal

pub returns : goal.returns
returns c = share_name_exactly c.args.bearer (class_of c.args.a.now) (class_of c.args.b.now) c.overlaps.result c.overlaps.ensures
