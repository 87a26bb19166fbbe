use Rattle.std.proofs.Common.{List, ℕ}
use Rattle.std.specs.Prelude.{take}
use Rattle.rng_types.specs.declared.facet.Relation.{Relation}
use Rattle.rng_types.specs.declared.facet.Facet.TheVariants.{Bound}
use Rattle.rng_types.proofs.Within.{In}
use Rattle.rng_types.proofs.NumbersLeft.{FailsBeyond}
use Rattle.rng_types.proofs.left_numbers.left_between.Given as goal

abbrev pub invariant-loop-facet : goal.invariant-loop-facet
invariant-loop-facet l = (relation : Relation) (limit : List ℕ) → In (Bound relation limit) (take l.facet-index l.facets) → FailsBeyond l.facets l.excepts l.zeros limit
