use Rattle.std.proofs.Common.{◌≡◌, ◌≤◌, ◌++◌, length, take, reverse}
use Rattle.std.specs.List.{flat_map}
use Rattle.nx_events.specs.Items.{left_out}
use Rattle.nx_events.proofs.nesting.push_all_left_out.Given as goal

abbrev pub invariant-loop-n : goal.invariant-loop-n
invariant-loop-n l =
    (l.n ≤ length l.elements)
    × (l.items ++ flat_map (left_out l.kind l.span) (reverse (take l.n l.elements)) ≡ l.initial.items ++ flat_map (left_out l.kind l.span) (reverse l.elements))

abbrev pub decreases-loop-n : goal.decreases-loop-n
decreases-loop-n l = l.n
