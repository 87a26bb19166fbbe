use Rattle.std.proofs.Common.{◌≡◌, ◌+◌, ◌-◌, ◌≤◌, length, drop}
use Rattle.nx_base.specs.Tokens.{bytes_up_to}
use Rattle.nx_text.proofs.search.up_to_byte.Given as goal

abbrev pub invariant-loop-passed : goal.invariant-loop-passed
invariant-loop-passed l =
    (l.passed ≤ length l.bytes) × (l.passed + bytes_up_to l.byte (drop l.passed l.bytes) ≡ bytes_up_to l.byte l.bytes)

abbrev pub decreases-loop-passed : goal.decreases-loop-passed
decreases-loop-passed l = length l.bytes - l.passed
