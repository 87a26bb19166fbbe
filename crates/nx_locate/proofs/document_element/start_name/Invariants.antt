use Rattle.std.proofs.Common.{◌≡◌, ◌++◌, ◌+◌, ◌-◌, drop, length}
use Rattle.nx_events.specs.Tags.{written_name}
use Rattle.nx_locate.proofs.document_element.start_name.Given as goal

abbrev pub invariant-loop-byte : goal.invariant-loop-byte
invariant-loop-byte l = l.name ++ written_name (drop l.at l.text) ≡ written_name (drop (l.from + 1) l.text)

abbrev pub decreases-loop-byte : goal.decreases-loop-byte
decreases-loop-byte l = length l.text - l.at
