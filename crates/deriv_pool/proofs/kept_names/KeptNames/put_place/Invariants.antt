use Rattle.std.proofs.Common.{◌≡◌, suc, ◌-◌}
use Rattle.deriv_pool.proofs.kept_names.KeptNames.put_place.Given as goal

abbrev pub invariant-loop-self : goal.invariant-loop-self
invariant-loop-self l = l.self.entries ≡ l.initial.self.entries

abbrev pub decreases-loop-self : goal.decreases-loop-self
decreases-loop-self l = suc l.kind - l.self.places.len
