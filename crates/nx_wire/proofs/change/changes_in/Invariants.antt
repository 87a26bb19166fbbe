-- What is read, and what the values that are left say, is what all of them say.
use Rattle.std.proofs.Common.{◌≡◌, ◌++◌, All, IsUtf8, option_map, length}
use Rattle.serde_json.specs.View.{items_view}
use Rattle.nx_wire.specs.Changes.{changes_in}
use Rattle.nx_wire.proofs.change.changes_in.Given as goal

abbrev pub invariant-loop-value : goal.invariant-loop-value
invariant-loop-value l =
    (option_map (λ more. l.changes.items ++ more) (changes_in (items_view l.rest)) ≡ changes_in (items_view l.values))
    × All (λ change. IsUtf8 change.text) l.changes.items

abbrev pub decreases-loop-value : goal.decreases-loop-value
decreases-loop-value l = length l.rest
