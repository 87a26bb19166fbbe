use Rattle.std.proofs.Common.{◌≡◌, ◌+◌, drop}
use Rattle.nx_events.specs.TagPlaces.{unquoted_len}
use Rattle.nx_events.proofs.place.unquoted_len.Given as goal

abbrev pub invariant-loop-i : goal.invariant-loop-i
invariant-loop-i l = l.i + unquoted_len l.quote (drop l.i l.bytes) ≡ unquoted_len l.quote l.bytes
