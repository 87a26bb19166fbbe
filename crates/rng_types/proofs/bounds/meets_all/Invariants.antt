use Rattle.std.proofs.Common.{◌≡◌, true, take}
use Rattle.std.specs.List.{list_all}
use Rattle.rng_types.specs.Numbers.{number_of}
use Rattle.rng_types.specs.NumberMembers.{is_number_met}
use Rattle.rng_types.proofs.bounds.meets_all.Given as goal

abbrev pub invariant-loop-facet : goal.invariant-loop-facet
invariant-loop-facet l = list_all (is_number_met (number_of l.literal)) (take l.facet-index l.facets) ≡ true
