use Rattle.std.proofs.Common.{◌∙◌}
use Rattle.rng_core.specs.Meaning.{class_of}
use Rattle.rng_core.specs.declared.name_class.Bearer.TheVariants.{Element}
use Rattle.rng_restrict.proofs.Sides.{any_share-map}
use Rattle.rng_restrict.proofs.classes.some_share.Goals as goal

pub returns : goal.returns
returns c = c.any_share.ensures ∙ any_share-map Element (λ x. class_of x.now) c.args.classes.now c.args.others.now
