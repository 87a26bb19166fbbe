use Rattle.std.proofs.Common.{◌≡◌, true, take}
use Rattle.rng_types.specs.Answers.{is_left}
use Rattle.rng_types.proofs.datatype.Datatype.is_left.Given as goal

abbrev pub invariant-loop-except : goal.invariant-loop-except
invariant-loop-except l = is_left l.self (take l.except-index l.excepts) l.text ≡ true
