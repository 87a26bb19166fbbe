use Rattle.std.proofs.Common.{◌≡◌, true, take}
use Rattle.std.specs.Prelude.{not}
use Rattle.std.specs.List.{list_all}
use Rattle.rng_types.specs.Numbers.{number_of}
use Rattle.rng_types.specs.NumberMembers.{takes_number}
use Rattle.rng_types.proofs.bounds.none_takes.Given as goal

abbrev pub invariant-loop-except : goal.invariant-loop-except
invariant-loop-except l = list_all (λ except. not (takes_number (number_of l.literal) except)) (take l.except-index l.excepts) ≡ true
