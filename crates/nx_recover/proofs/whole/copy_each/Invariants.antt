use Rattle.std.proofs.Common.{◌≡◌, map, take}
use Rattle.std.specs.List.{AllByRecursion}
use Rattle.nx_recover.specs.States.{IsOpen, open_form}
use Rattle.nx_recover.proofs.whole.copy_each.Given as goal

abbrev pub invariant-loop-element : goal.invariant-loop-element
invariant-loop-element g l =
    let m = g.M.Matcher in
    record {
      states : AllByRecursion (IsOpen (m.is_state l.matcher)) l.copied.items;
      meaning : map (open_form (m.means l.matcher)) l.copied.items ≡ map (open_form (m.means l.matcher)) (take l.element-index l.elements);
    }
