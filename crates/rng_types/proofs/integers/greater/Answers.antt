use Rattle.std.proofs.Common.{arith}
use Rattle.rng_types.specs.Offsets.{whole_number}
use Rattle.rng_types.proofs.Raised.{greater_first, greater_second}
use Rattle.rng_types.proofs.integers.greater.Goals as goal

pub returns-then-offset-lt1000-clause-value : goal.returns-then-offset-lt1000-clause-value
returns-then-offset-lt1000-clause-value c = greater_first (whole_number c.args.a.now) (whole_number c.args.b.now) (omega (arith, c.offset.ensures))

pub returns-else-offset-lt1000-clause-value : goal.returns-else-offset-lt1000-clause-value
returns-else-offset-lt1000-clause-value c = greater_second (whole_number c.args.a.now) (whole_number c.args.b.now) (omega (arith, c.offset.ensures))
