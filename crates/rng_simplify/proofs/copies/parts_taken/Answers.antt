use Rattle.std.proofs.Common.{arith}
use Rattle.rng_simplify.proofs.Typing.{part_known}
use Rattle.rng_simplify.proofs.copies.parts_taken.Goals as goal

pub of-number-requires : goal.of-number-requires
of-number-requires c = let known = (part_known _ _ _ _ _ _ c.in-Typed.is c.requires.known).within in omega (arith, known, c.except.view_is)
