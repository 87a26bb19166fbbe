use Rattle.std.proofs.Common.{take}
use Rattle.std.specs.List.{AllByRecursion}
use Rattle.nx_locate.specs.DocumentElements.{EntersNone}
use Rattle.nx_locate.proofs.document_element.first_element.Given as goal

abbrev pub invariant-loop-item : goal.invariant-loop-item
invariant-loop-item l = AllByRecursion EntersNone (take l.item-index l.items)
