use Rattle.rng_core.specs.Meaning.{class_of}
use Rattle.rng_core.specs.declared.name_class.Bearer.TheVariants.{Element}
use Rattle.rng_core.proofs.Borne.{overlap_found}
use Rattle.rng_fill_cases.proofs.filling.has_name.Goals as goal

pub returns : goal.returns
returns c = λ is. overlap_found Element (class_of c.args.class.now) (class_of c.args.class.now) (c.overlaps.ensures.0 is)
