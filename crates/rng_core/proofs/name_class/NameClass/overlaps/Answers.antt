use Rattle.rng_core.specs.Meaning.{class_of}
use Rattle.rng_core.proofs.Borne.{told_by}
use Rattle.rng_core.proofs.name_class.NameClass.overlaps.Goals as goal

pub returns-in-Choice-Choice : goal.returns-in-Choice-Choice
returns-in-Choice-Choice c = told_by c.args.bearer (class_of c.args.self.now) (class_of c.args.other.now) c.overlaps_sorted.result c.overlaps_sorted.ensures

pub returns-in_default : goal.returns-in_default
returns-in_default c = told_by c.args.bearer (class_of c.args.self.now) (class_of c.args.other.now) c.overlaps.result c.overlaps.ensures
