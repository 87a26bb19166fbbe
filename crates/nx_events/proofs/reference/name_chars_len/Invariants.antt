use Rattle.std.proofs.Common.{◌≡◌, ◌+◌, ◌-◌, ◌≤◌, length, drop}
use Rattle.nx_events.specs.References.{name_chars_len}
use Rattle.nx_events.proofs.reference.name_chars_len.Given as goal

abbrev pub invariant-loop-i : goal.invariant-loop-i
invariant-loop-i l = (l.i ≤ length l.bytes) × (l.i + name_chars_len 0 (drop l.i l.bytes) ≡ name_chars_len 0 l.bytes)

abbrev pub decreases-loop-i : goal.decreases-loop-i
decreases-loop-i l = length l.bytes - l.i
