use Rattle.std.proofs.Common.{◌≡◌, length}
use Rattle.rng_simplify.proofs.form.Forms.new.Given as goal

abbrev pub invariant-loop : goal.invariant-loop
invariant-loop l = length l.of.items ≡ l.counter
