use Rattle.std.proofs.Common.{◌≡◌, true, take}
use Rattle.std.specs.List.{list_all}
use Rattle.rng_types.specs.Giving.{is_limit_within}
use Rattle.rng_types.proofs.number_texts.longest_limit.Given as goal

abbrev pub invariant-loop-facet : goal.invariant-loop-facet
invariant-loop-facet l = list_all (is_limit_within l.longest) (take l.facet-index l.facets) ≡ true
