use Rattle.std.proofs.Common.{refl, arith}
use Rattle.rng_simplify.proofs.Showing.{part_below}
use Rattle.rng_simplify.proofs.shape.Shapes.size_of.Goals as goal

pub size-requires : goal.size-requires
size-requires c = part_below _ _ _ _ c.in-List.is (0, omega arith, refl) c.requires

pub size-requires-in-Attribute : goal.size-requires-in-Attribute
size-requires-in-Attribute c = part_below _ _ _ _ c.in-Attribute.is (0, omega arith, refl) c.requires

pub size-requires-in-OneOrMore : goal.size-requires-in-OneOrMore
size-requires-in-OneOrMore c = part_below _ _ _ _ c.in-OneOrMore.is (0, omega arith, refl) c.requires

pub size-requires-in-Joined : goal.size-requires-in-Joined
size-requires-in-Joined c = part_below _ _ _ _ c.in-Joined.is (0, omega arith, refl) c.requires

pub size-requires-in-Joined-2 : goal.size-requires-in-Joined-2
size-requires-in-Joined-2 c = part_below _ _ _ _ c.in-Joined.is (1, omega arith, refl) c.requires
