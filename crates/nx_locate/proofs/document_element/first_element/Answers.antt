use Rattle.std.proofs.Common.{sym}
use Rattle.nx_locate.proofs.Elements.{found_first}
use Rattle.nx_locate.proofs.document_element.first_element.Goals as goal

pub returns-then-is_some : goal.returns-then-is_some
returns-then-is_some c =
    found_first c.args.text.now c.args.items.now c.loop-item.item-index c.item-item.result c.in_ok-found.found (sym c.if-is_some.ensures)
    c.loop-item.invariant c.loop-item-test.true c.item-item.is c.in_ok-found.ensures
