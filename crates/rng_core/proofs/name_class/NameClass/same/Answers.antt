use Rattle.rng_core.specs.Meaning.{class_of}
use Rattle.rng_core.proofs.Same.{class_told}
use Rattle.rng_core.proofs.name_class.NameClass.same.Goals as goal

pub returns : goal.returns
returns c = class_told (class_of c.args.self.now) (class_of c.args.other.now) c.alike_classes.result c.alike_classes.ensures
