use Rattle.rng_core.specs.Meaning.{class_of}
use Rattle.rng_core.proofs.SortedNames.{sorted_has}
use Rattle.rng_core.proofs.overlap.has_sorted.Goals as goal

pub returns-in-Some : goal.returns-in-Some
returns-in-Some c = sorted_has c.args.bearer (class_of c.args.class.now) c.args.sorted c.in-Some.sorted c.args.name.now c.has_as.result c.in-Some.is c.requires c.has_as.ensures
