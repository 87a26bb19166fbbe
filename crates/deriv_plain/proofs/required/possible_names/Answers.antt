use Rattle.std.proofs.Common.{sym, ap, ◌∙◌}
use Rattle.rng_core.specs.Meaning.{pattern_of}
use Rattle.rng_kept.specs.Residuals.{among, in_tag, is_in_tag}
use Rattle.rng_kept.specs.Required.{is_required}
use Rattle.deriv_plain.specs.Ways.{outer_of, way_of, residual_of}
use Rattle.rng_live.proofs.Needed.{possible_of}
use Rattle.deriv_plain.proofs.FirstWay.{first_way}
use Rattle.deriv_plain.proofs.required.possible_names.Goals as goal

pub returns-in-InTag : goal.returns-in-InTag
returns-in-InTag c =
    let front = first_way c.loop-way.left.now c.in-Some.rest.now c.in-Some.way.now (in_tag (pattern_of c.in-InTag.content) (outer_of c.in-InTag.field-1.value))
    c.in-Some.ensures.cases.0 (ap way_of c.in-InTag.is) in
    possible_of (residual_of c.args.ways.now) (pattern_of c.in-InTag.content) (outer_of c.in-InTag.field-1.value) (residual_of c.in-Some.rest.now)
    c.in_ok-names.names (sym (ap is_in_tag front) ∙ c.loop-way.invariant.tag) (λ n. sym (ap (λ x. is_required n x) front) ∙ c.loop-way.invariant.same n)
    c.in_ok-names.ensures

pub loop-way-preserved : goal.loop-way-preserved
loop-way-preserved c =
    let front = first_way c.loop-way.left.now c.in-Some.rest.now c.in-Some.way.now (among (outer_of c.in_default-way.field-0.value))
    c.in-Some.ensures.cases.0 (ap way_of c.in_default-way.is) in
    record {
      tag = sym (ap is_in_tag front) ∙ c.loop-way.invariant.tag;
      same = λ n. sym (ap (λ x. is_required n x) front) ∙ c.loop-way.invariant.same n;
    }
