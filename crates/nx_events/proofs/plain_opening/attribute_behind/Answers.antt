use Rattle.std.proofs.Common.{refl, sym, ◌∙◌}
use Rattle.nx_events.proofs.PlainAttributes.{front_found}
use Rattle.nx_events.proofs.plain_opening.attribute_behind.Goals as goal

pub returns : goal.returns
returns c =
    let extent = c.in_ok-extent.ensures in
    let it = c.in_ok-attribute.ensures in
    front_found c.args.bytes.now _ _ c.name_in_front.result.now c.in_ok-attribute.attribute c.in_ok-extent.extent.quote c.in_ok-extent.extent.value refl
    (sym c.is_between.ensures ∙ c.if-not-is_between.false) extent.0 extent.1 extent.2 extent.3 (c.name_in_front.ensures it.2) it.0 it.1 refl
