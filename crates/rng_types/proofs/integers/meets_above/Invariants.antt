use Rattle.std.proofs.Common.{◌≡◌, true, take}
use Rattle.std.specs.Prelude.{pos, ◌+ℤ◌}
use Rattle.std.specs.List.{list_all}
use Rattle.rng_types.specs.Offsets.{whole_number}
use Rattle.rng_types.specs.NumberMembers.{is_number_met, over}
use Rattle.rng_types.proofs.integers.meets_above.Given as goal

abbrev pub invariant-loop-facet : goal.invariant-loop-facet
invariant-loop-facet l = list_all (is_number_met (over 0 (whole_number l.low +ℤ pos l.above))) (take l.facet-index l.facets) ≡ true
