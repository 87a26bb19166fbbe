-- What a type of dates, times or octets accepts, in the words of its literals.
use Rattle.std.specs.Prelude.{ℕ, List, IsTrue, ◌↔◌}
use Rattle.std.specs.List.{list_all}
use Rattle.rng_more_types.specs.declared.more_type.MoreType.{MoreType}
use Rattle.rng_more_types.specs.MoreTypes.{IsLiteral}
use Rattle.rng_types.specs.Facets.{meets}
use Rattle.rng_types.specs.Types.{Accepts}
use Rattle.rng_types.specs.declared.kind.Form.TheVariants.{More}
use Rattle.rng_types.specs.declared.facet.Facet.{Facet}
use Rattle.rng_types.specs.declared.datatype.Datatype.{Datatype}

abbrev pub more_type : MoreType → List Facet → Datatype
more_type more facets = record { form = More more; facets = facets }

-- the literals that meet its facets
abbrev pub AcceptsLiterals : Type 0
AcceptsLiterals = (more : MoreType) (facets : List Facet) (text : List ℕ) →
    Accepts (more_type more facets) text ↔ (IsLiteral more text × IsTrue (list_all (meets (More more) text) facets))
