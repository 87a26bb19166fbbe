use Rattle.nx_locate.proofs.RuleItems.{value_here, value_stops, value_further, value_ends}
use Rattle.std.proofs.Common.{◌∙◌, sym, ap, Some}
use Rattle.nx_locate.proofs.read.value.Goals as goal

pub returns-in_default-attribute_in : goal.returns-in_default-attribute_in
returns-in_default-attribute_in c =
    value_stops c.args.local.now c.args.tag.now c.loop-item.rest.now c.loop-item.invariant c.in-Some.item.now c.in-Some.behind.now
    c.in-Some.ensures.cases.0 c.in_default-attribute_in.ensures

pub returns-then-is_plain : goal.returns-then-is_plain
returns-then-is_plain c =
    ap Some c.in_ok-copy.ensures
    ∙ value_here c.args.local.now c.args.tag.now c.loop-item.rest.now c.loop-item.invariant c.in-Some.item.now c.in-Some.behind.now
    c.in-Some-attribute_in.attribute.name.now c.in-Some-attribute_in.attribute.value.now c.in-Some.ensures.cases.0
    c.in-Some-attribute_in.ensures (sym c.if-is_plain.ensures)

pub loop-item-preserved : goal.loop-item-preserved
loop-item-preserved c =
    value_further c.args.local.now c.args.tag.now c.loop-item.rest.now c.loop-item.invariant c.in-Some.item.now c.in-Some.behind.now
    c.in-Some-attribute_in.attribute.name.now c.in-Some-attribute_in.attribute.value.now c.in-Some.ensures.cases.0
    c.in-Some-attribute_in.ensures (sym c.if-is_plain.ensures)

pub returns : goal.returns
returns c =
    value_ends c.args.local.now c.args.tag.now c.loop-item.rest.now c.loop-item.invariant c.in_default.ensures.cases
