use Rattle.std.proofs.Common.{◌≡◌, true, take}
use Rattle.std.specs.List.{list_all}
use Rattle.rng_types.specs.NumberMembers.{leaves_room}
use Rattle.rng_types.proofs.facet.Facet.leaves_room_to_all.Given as goal

abbrev pub invariant-loop-facet : goal.invariant-loop-facet
invariant-loop-facet l = list_all (leaves_room l.self) (take l.facet-index l.facets) ≡ true
