use Rattle.std.proofs.Common.{◌-◌, drop, length}
use Rattle.std.specs.List.{AllByRecursion}
use Rattle.nx_events.specs.Texts.{ItemIsText}
use Rattle.nx_recover.specs.States.{form, view_of}
use Rattle.nx_recover.proofs.Going.{Going}
use Rattle.nx_recover.proofs.along.take_items.Given as goal

abbrev pub decreases-loop-i : goal.decreases-loop-i
decreases-loop-i g l = length l.items.items - l.i

abbrev pub invariant-loop-i : goal.invariant-loop-i
invariant-loop-i g l =
    let m = g.M.Matcher in
    Going m.later m.is_state m.means (m.language l.fn.matcher) l.fn.matcher (form (m.means l.fn.matcher) (view_of l.levels)) l.fn.faults l.fn.items.items l.matcher l.levels l.change l.faults (drop l.i l.items.items)
    × AllByRecursion ItemIsText (drop l.i l.items.items)
