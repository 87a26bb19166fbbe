use Rattle.std.proofs.Common.{arith}
use Rattle.rng_simplify.proofs.Typing.{part_known}
use Rattle.rng_simplify.proofs.types.type_of.Goals as goal

pub of-except-requires : goal.of-except-requires
of-except-requires c = let known = (part_known _ _ _ _ _ _ c.in-Typed.is c.requires.known).within in omega (arith, known, c.except.view_is)
