use Rattle.std.proofs.Common.{arith}
use Rattle.rng_more_types.proofs.Leaps.{leaps}
use Rattle.rng_more_types.proofs.calendar.leap_years_before.Goals as goal

pub returns-clause-number : goal.returns-clause-number
returns-clause-number c = omega (arith, leaps c.args.year)
