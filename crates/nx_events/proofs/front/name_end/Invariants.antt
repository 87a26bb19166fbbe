use Rattle.std.proofs.Common.{◌≡◌, ◌+◌, drop}
use Rattle.std.specs.List.{position_or_len}
use Rattle.nx_events.specs.Tags.{ends_name}
use Rattle.nx_events.proofs.front.name_end.Given as goal

abbrev pub invariant-loop-i : goal.invariant-loop-i
invariant-loop-i l = l.i + position_or_len ends_name (drop l.i l.bytes) ≡ position_or_len ends_name l.bytes
