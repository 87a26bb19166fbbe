use Rattle.std.proofs.Common.{◌∙◌, sym}
use Rattle.std.proofs.lemmas.List.{length-map}
use Rattle.rng_core.specs.Meaning.{class_of}
use Rattle.rng_restrict.proofs.Sides.{both_sides}
use Rattle.rng_restrict.proofs.attribute.+attributes.Goals as goal

pub gather_sides-returns : goal.gather_sides-returns
gather_sides-returns t c =
    let shared = rw c.as_slice.ensures.value at c.sides_share-shared.ensures in
    both_sides _ _ _ _ _ c.len-before.result c.len-between.result c.sides_share-shared.result c.in_ok-first.first c.in_ok-second.second c.any_fault.result _ _
    c.in_ok-first.ensures.1 c.in_ok-second.ensures.1
    (c.len-before.ensures ∙ c.args.found.now.ok.0 ∙ sym (length-map c.args.found.now.items (λ x. class_of x.now)))
    (c.len-between.ensures ∙ c.gather.new.found.ok.0 ∙ sym (length-map c.gather.new.found.items (λ x. class_of x.now)))
    shared c.in_ok-first.ensures.0 c.in_ok-second.ensures.0 c.any_fault.ensures
