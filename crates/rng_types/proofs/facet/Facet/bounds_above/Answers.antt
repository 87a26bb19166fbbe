use Rattle.std.proofs.Common.{◌≡◌, sym, ap, ◌∙◌, ◌+◌, nat_cmp}
use Rattle.std.specs.Prelude.{ℕ, List, true, pos, ◌+ℤ◌, ◌-ℤ◌}
use Rattle.rng_types.specs.Numbers.{is_integer}
use Rattle.rng_types.specs.Facets.{holds}
use Rattle.rng_types.specs.Offsets.{whole_number, offset_of}
use Rattle.rng_types.specs.WellMade.{suits}
use Rattle.rng_types.specs.NumberMembers.{is_number_met, over}
use Rattle.rng_types.specs.declared.kind.Form.TheVariants.{One}
use Rattle.rng_types.specs.declared.kind.Word.TheVariants.{Integer}
use Rattle.rng_types.proofs.Raised.{met_by_offset}
use Rattle.rng_types.proofs.facet.Facet.bounds_above.Goals as goal

pub returns-in-Bound : goal.returns-in-Bound
returns-in-Bound c =
    let low = whole_number c.args.low.now in
    let integer : is_integer c.in-Bound.limit ≡ true = ap (suits (One Integer)) (sym c.in-Bound.is) ∙ c.requires.bound in
    c.holds.ensures
    ∙ ap (holds c.in-Bound.relation) (c.cmp.ensures ∙ ap (λ n. nat_cmp (1000 + c.args.above) n) (c.offset.ensures ∙ ap (λ (t : List ℕ). offset_of (whole_number t -ℤ low)) c.as_slice.ensures))
    ∙ met_by_offset low c.args.above c.in-Bound.relation c.in-Bound.limit integer c.requires.near
    ∙ ap (is_number_met (over 0 (low +ℤ pos c.args.above))) (sym c.in-Bound.is)
