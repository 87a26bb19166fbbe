use Rattle.std.proofs.Common.{slice_get}
use Rattle.rng_simplify.specs.Shown.{class_in}
use Rattle.rng_simplify.proofs.Showing.{adds_shown, attribute_is}
use Rattle.rng_simplify.proofs.shape.Shapes.attribute.Goals as goal

pub returns-in-Empty : goal.returns-in-Empty
returns-in-Empty c = adds_shown _ _ _ _ _ _ (attribute_is _ _ _ c.in-Empty.ensures (λ cells. class_in (slice_get cells c.args.node))) (λ cells count own. own) c.add.ensures

pub returns-in-Other : goal.returns-in-Other
returns-in-Other c = adds_shown _ _ _ _ _ _ (attribute_is _ _ _ c.in-Other.ensures (λ cells. class_in (slice_get cells c.args.node))) (λ cells count own. own) c.add-in-Other.ensures
