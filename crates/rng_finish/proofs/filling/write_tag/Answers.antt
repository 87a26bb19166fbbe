use Rattle.std.proofs.Common.{List, ◌∙◌, ap, sym, subst}
use Rattle.rng_core.specs.Meaning.{pattern_of}
use Rattle.rng_core.specs.Patterns.{Pattern}
use Rattle.rng_cost.specs.Leaves.{patterns_of}
use Rattle.rng_fill.specs.Contents.{definitions_in}
use Rattle.rng_finish.specs.Filled.{child_leaves}
use Rattle.rng_finish.specs.Fit.{FitLeaves}
use Rattle.rng_finish.proofs.Adding.{leaves_fit, values_sound, children_fit}
use Rattle.rng_finish.proofs.filling.write_tag.Goals as goal

pub write_attributes-requires : goal.write_attributes-requires
write_attributes-requires c =
    values_sound (definitions_in c.args.contents.now) (patterns_of c.as_slice.result.now)
    (leaves_fit (definitions_in c.args.contents.now) (pattern_of c.args.pattern.now) c.requires.costs
    (ap patterns_of c.as_slice.ensures ∙ c.in_ok-leaves.ensures) c.requires.fits)

pub write_children-requires-clause-fits : goal.write_children-requires-clause-fits
write_children-requires-clause-fits c =
    let g = definitions_in c.args.contents.now in
    let found = ap patterns_of c.as_slice-3.ensures ∙ c.in_ok-children.ensures in
    subst (λ (ps : List Pattern). FitLeaves g ps) (sym found)
    (children_fit g (patterns_of c.as_slice-2.result.now)
    (leaves_fit g (pattern_of c.args.pattern.now) c.requires.costs (ap patterns_of c.as_slice-2.ensures ∙ c.in_ok-leaves.ensures) c.requires.fits))
