use Rattle.std.proofs.Common.{arith, ◌-◌}
use Rattle.rng_more_types.proofs.Months.{few_days}
use Rattle.rng_more_types.proofs.calendar.days_before_month.Goals as goal

pub sum_of-requires : goal.sum_of-requires
sum_of-requires c = rw (c.month_lengths-lengths.ensures) (omega (arith, few_days c.is_leap.result (c.args.month - 1)))

pub returns-clause-fewer : goal.returns-clause-fewer
returns-clause-fewer c = rw (c.sum_of.ensures, c.month_lengths-lengths.ensures) (few_days c.is_leap.result (c.args.month - 1))
