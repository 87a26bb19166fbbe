use Rattle.std.proofs.Common.{◌≡◌, true, take}
use Rattle.std.specs.List.{list_all}
use Rattle.rng_types.specs.Spaces.{normalized}
use Rattle.rng_types.specs.Words.{whitespace_of}
use Rattle.rng_types.specs.Facets.{meets}
use Rattle.rng_types.proofs.meeting.all_are_met.Given as goal

abbrev pub invariant-loop-facet : goal.invariant-loop-facet
invariant-loop-facet l = list_all (meets l.form (normalized (whitespace_of l.form) l.text)) (take l.facet-index l.facets) ≡ true
