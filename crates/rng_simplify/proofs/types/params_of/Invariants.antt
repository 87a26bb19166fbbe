use Rattle.std.proofs.Common.{◌≡◌, take}
use Rattle.rng_simplify.specs.Datatypes.{params_of}
use Rattle.rng_simplify.proofs.types.params_of.Given as goal

abbrev pub invariant-loop-param : goal.invariant-loop-param
invariant-loop-param l = l.copies.items ≡ params_of (take l.param-index l.params)
