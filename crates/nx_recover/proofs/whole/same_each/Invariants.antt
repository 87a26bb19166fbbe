use Rattle.std.proofs.Common.{◌≡◌, map, take}
use Rattle.nx_recover.specs.States.{open_form}
use Rattle.nx_recover.proofs.whole.same_each.Given as goal

abbrev pub invariant-loop-i : goal.invariant-loop-i
invariant-loop-i g l = map (open_form (g.M.Matcher.means l.matcher)) (take l.i l.a) ≡ map (open_form (g.M.Matcher.means l.matcher)) (take l.i l.b)
