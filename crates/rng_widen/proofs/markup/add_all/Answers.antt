use Rattle.std.proofs.Common.{sym, ◌∙◌, ap}
use Rattle.rng_widen.specs.MarkupViews.{walked_of}
use Rattle.rng_widen.specs.MarkupWidenings.{behind_items}
use Rattle.rng_widen.proofs.MarkupLoops.{item_gone, none_gone}
use Rattle.rng_widen.proofs.markup.add_all.Goals as goal

pub items-preserved : goal.items-preserved
items-preserved c =
    ap (behind_items c.in-Some.behind.now) c.in_ok-add.ensures
    ∙ sym (item_gone c.in-Some.item.now c.in-Some.behind.now c.items.rest.now (walked_of c.items.walk) c.in-Some.ensures.cases.0)
    ∙ c.items.invariant

pub returns : goal.returns
returns c = sym (none_gone c.items.rest.now (walked_of c.items.walk) c.in_default.ensures.cases) ∙ c.items.invariant
