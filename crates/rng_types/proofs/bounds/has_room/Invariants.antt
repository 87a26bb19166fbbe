use Rattle.std.proofs.Common.{◌≡◌, true, take}
use Rattle.std.specs.List.{list_all}
use Rattle.rng_types.specs.NumberMembers.{leaves_room}
use Rattle.rng_types.proofs.bounds.has_room.Given as goal

abbrev pub invariant-loop-facet : goal.invariant-loop-facet
invariant-loop-facet l = list_all (λ lower. list_all (leaves_room lower) l.facets) (take l.facet-index l.facets) ≡ true
