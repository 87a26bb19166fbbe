use Rattle.std.proofs.Common.{◌≡◌, ◌+◌, drop}
use Rattle.nx_base.specs.Tokens.{bad_rest}
use Rattle.nx_scan.proofs.scan.bad_end.Given as goal

abbrev pub invariant-loop-place : goal.invariant-loop-place
invariant-loop-place l = l.from + bad_rest (drop l.from l.text) ≡ l.place + bad_rest (drop l.place l.text)
