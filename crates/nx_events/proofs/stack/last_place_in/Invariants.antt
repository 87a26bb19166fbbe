use Rattle.std.proofs.Common.{◌≡◌, ◌≤◌, length, take, map}
use Rattle.nx_events.specs.Places.{last_place}
use Rattle.nx_events.proofs.stack.last_place_in.Given as goal

abbrev pub invariant-loop-n : goal.invariant-loop-n
invariant-loop-n g l = (l.n ≤ length l.items) × (last_place l.name (map g.T.Named.name_of (take l.n l.items)) ≡ last_place l.name (map g.T.Named.name_of l.items))

abbrev pub decreases-loop-n : goal.decreases-loop-n
decreases-loop-n g l = l.n
