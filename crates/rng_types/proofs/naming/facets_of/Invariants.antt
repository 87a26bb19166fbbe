use Rattle.std.proofs.Common.{◌≡◌, ◌++◌, take}
use Rattle.std.specs.List.{filter_map}
use Rattle.rng_types.specs.Rows.{row_of}
use Rattle.rng_types.specs.Naming.{facet_of, range_of}
use Rattle.rng_types.proofs.naming.facets_of.Given as goal

abbrev pub invariant-loop-param : goal.invariant-loop-param
invariant-loop-param l = l.facets ≡ range_of (row_of l.row) ++ filter_map (facet_of (row_of l.row)) (take l.param-index l.params)
