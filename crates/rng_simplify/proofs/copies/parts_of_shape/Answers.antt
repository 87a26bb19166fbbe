use Rattle.std.proofs.Common.{refl, arith}
use Rattle.rng_simplify.proofs.Showing.{part_below}
use Rattle.rng_simplify.proofs.copies.parts_of_shape.Goals as goal

pub parts_at-requires : goal.parts_at-requires
parts_at-requires c = part_below _ _ _ _ c.in-List.is (0, omega arith, refl) c.requires

pub parts_at-requires-in-Attribute : goal.parts_at-requires-in-Attribute
parts_at-requires-in-Attribute c = part_below _ _ _ _ c.in-Attribute.is (0, omega arith, refl) c.requires

pub parts_at-requires-in-OneOrMore : goal.parts_at-requires-in-OneOrMore
parts_at-requires-in-OneOrMore c = part_below _ _ _ _ c.in-OneOrMore.is (0, omega arith, refl) c.requires

pub parts_at-requires-in-Joined : goal.parts_at-requires-in-Joined
parts_at-requires-in-Joined c = part_below _ _ _ _ c.in-Joined.is (0, omega arith, refl) c.requires

pub parts_at-requires-in-Joined-2 : goal.parts_at-requires-in-Joined-2
parts_at-requires-in-Joined-2 c = part_below _ _ _ _ c.in-Joined.is (1, omega arith, refl) c.requires
