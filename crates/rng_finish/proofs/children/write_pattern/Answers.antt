use Rattle.std.proofs.Common.{◌∙◌, ap}
use Rattle.rng_core.specs.Meaning.{pattern_of}
use Rattle.rng_cost.specs.Leaves.{patterns_of}
use Rattle.rng_fill.specs.Contents.{definitions_in, costs_in}
use Rattle.rng_finish.proofs.Adding.{leaves_fit, leaves_added}
use Rattle.rng_finish.proofs.children.write_pattern.Goals as goal

pub write_children-requires-clause-fits : goal.write_children-requires-clause-fits
write_children-requires-clause-fits c =
    leaves_fit (definitions_in c.args.contents.now) (pattern_of c.args.pattern.now) c.requires.costs
    (ap patterns_of c.as_slice.ensures ∙ c.in_ok-leaves.ensures) c.requires.fits

pub returns-clause-added : goal.returns-clause-added
returns-clause-added c =
    leaves_added (costs_in c.args.contents.now) (pattern_of c.args.pattern.now) c.requires.costs
    (ap patterns_of c.as_slice.ensures ∙ c.in_ok-leaves.ensures) c.if-not-plain.false c.in_ok-plain.ensures.added
