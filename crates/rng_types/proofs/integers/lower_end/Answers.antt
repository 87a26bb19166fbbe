use Rattle.std.proofs.Common.{sym, ap, ◌∙◌}
use Rattle.std.proofs.Math.ListN.{drop_of_length-le}
use Rattle.std.specs.Prelude.{List, map, option_copied}
use Rattle.rng_types.specs.Offsets.{end_of}
use Rattle.rng_types.specs.NumberMembers.{limit_over}
use Rattle.rng_types.specs.declared.facet.Facet.{Facet}
use Rattle.rng_types.proofs.Raised.{raised_by, raised_by_all}
use Rattle.rng_types.proofs.integers.lower_end.Goals as goal

pub returns-clause-value : goal.returns-clause-value
returns-clause-value c =
    ap (λ (facets : List Facet). raised_by (end_of (option_copied c.loop-facet.low)) (map (limit_over 0) facets)) (sym (drop_of_length-le c.args.facets.now c.loop-facet-test.false))
    ∙ c.loop-facet.invariant.value ∙ raised_by_all (map (limit_over 0) c.args.facets.now)
