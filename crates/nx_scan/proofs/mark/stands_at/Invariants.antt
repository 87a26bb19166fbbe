use Rattle.std.proofs.Common.{◌≡◌, ◌+◌, drop}
use Rattle.nx_base.specs.Tokens.{begins_with}
use Rattle.nx_scan.proofs.mark.stands_at.Given as goal

abbrev pub invariant-loop-i : goal.invariant-loop-i
invariant-loop-i l = begins_with l.mark (drop l.at l.text) ≡ begins_with (drop l.i l.mark) (drop (l.at + l.i) l.text)
