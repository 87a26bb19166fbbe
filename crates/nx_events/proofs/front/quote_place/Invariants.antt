use Rattle.std.proofs.Common.{◌≡◌, ◌+◌, drop}
use Rattle.std.specs.List.{position_or_len}
use Rattle.nx_base.specs.Characters.{is_quote}
use Rattle.nx_events.proofs.front.quote_place.Given as goal

abbrev pub invariant-loop-i : goal.invariant-loop-i
invariant-loop-i l = l.i + position_or_len is_quote (drop l.i l.bytes) ≡ position_or_len is_quote l.bytes
