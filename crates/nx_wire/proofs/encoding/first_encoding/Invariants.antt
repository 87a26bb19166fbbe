-- The first of those that are left is the first of all.
use Rattle.std.proofs.Common.{◌≡◌, length}
use Rattle.serde_json.specs.View.{items_view}
use Rattle.nx_wire.specs.Encodings.{first_encoding}
use Rattle.nx_wire.proofs.encoding.first_encoding.Given as goal

abbrev pub invariant-loop-value : goal.invariant-loop-value
invariant-loop-value l = first_encoding (items_view l.rest) ≡ first_encoding (items_view l.values)

abbrev pub decreases-loop-value : goal.decreases-loop-value
decreases-loop-value l = length l.rest
