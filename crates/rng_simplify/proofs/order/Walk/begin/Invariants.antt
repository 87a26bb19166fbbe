-- so many marks, all new
use Rattle.std.proofs.Common.{◌≡◌, replicate}
use Rattle.rng_simplify.specs.declared.order.Mark.TheVariants.{New}
use Rattle.rng_simplify.proofs.order.Walk.begin.Given as goal

abbrev pub invariant-loop : goal.invariant-loop
invariant-loop l = l.marks.items ≡ replicate l.counter New
