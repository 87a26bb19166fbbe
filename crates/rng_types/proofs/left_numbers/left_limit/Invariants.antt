use Rattle.std.proofs.Common.{◌≡◌, false, take}
use Rattle.std.specs.List.{list_any}
use Rattle.rng_types.specs.NumberMembers.{is_limit_left}
use Rattle.rng_types.proofs.left_numbers.left_limit.Given as goal

abbrev pub invariant-loop-facet : goal.invariant-loop-facet
invariant-loop-facet l = list_any (is_limit_left l.facets l.excepts) (take l.facet-index l.facets) ≡ false
