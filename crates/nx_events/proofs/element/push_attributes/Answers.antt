use Rattle.std.proofs.Common.{◌++◌, List, [], arith, refl, ap, subst, ◌∙◌}
use Rattle.nx_base.specs.declared.name.Name.{Name}
use Rattle.nx_events.specs.Elements.{attribute_item, kept_name}
use Rattle.nx_events.specs.SeenNames.{AreKept, new_of}
use Rattle.nx_events.proofs.Elements.{items_more, items_whole}
use Rattle.nx_events.proofs.KeptNames.{new_is}
use Rattle.nx_events.proofs.OpenItems.{names_more, names_whole}
use Rattle.nx_events.proofs.element.push_attributes.Goals as goal

pub loop-it-init : goal.loop-it-init
loop-it-init c = ([], λ name. c.new-kept.ensures name.ns name.local, refl, refl)

pub loop-it-preserved : goal.loop-it-preserved
loop-it-preserved c =
    let scope = c.args.outer.now ++ c.args.own.now in
    let it = c.it-item.result in
    let names = c.loop-it.invariant.0 in
    let resolved = new_of names c.in_ok-declared.declared it.name in
    let is = ap (λ d. new_of names d it.name) c.in_ok-declared.ensures.resolved ∙ new_is scope names it in (
      names ++ kept_name resolved,
      c.in_ok-push_attribute.ensures.kept names c.loop-it.invariant.1,
      items_more scope names names (names ++ kept_name resolved) c.args.attributes.now c.loop-it.it-index it resolved c.loop-it.items c.push_attribute.new.items _ (omega arith) c.it-item.is refl
          is (c.in_ok-push_attribute.ensures.items names c.loop-it.invariant.1 ∙ ap (λ ys. ys ++ attribute_item it resolved) c.declared_if_attribute.ensures.same) refl c.loop-it.invariant.2,
      names_more scope names _ c.args.attributes.now c.loop-it.it-index it resolved (omega arith) c.it-item.is is c.loop-it.invariant.3,
    )

pub returns-clause-items : goal.returns-clause-items
returns-clause-items c = items_whole (c.args.outer.now ++ c.args.own.now) c.loop-it.invariant.0 c.args.attributes.now c.loop-it.it-index c.loop-it.items _ (omega arith) c.loop-it.invariant.2

pub returns-clause-kept : goal.returns-clause-kept
returns-clause-kept c =
    let P : List Name → Type 0 = λ names. AreKept c.loop-it.kept.names.keys names in
    subst P (names_whole (c.args.outer.now ++ c.args.own.now) c.loop-it.invariant.0 _ c.args.attributes.now c.loop-it.it-index (omega arith) c.loop-it.invariant.3) c.loop-it.invariant.1
