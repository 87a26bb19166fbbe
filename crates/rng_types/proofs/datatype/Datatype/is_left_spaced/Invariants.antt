use Rattle.std.proofs.Common.{◌≡◌, true, take}
use Rattle.rng_types.specs.TextMembers.{is_left_spaced}
use Rattle.rng_types.proofs.datatype.Datatype.is_left_spaced.Given as goal

abbrev pub invariant-loop-except : goal.invariant-loop-except
invariant-loop-except l = is_left_spaced l.self (take l.except-index l.excepts) l.text ≡ true
