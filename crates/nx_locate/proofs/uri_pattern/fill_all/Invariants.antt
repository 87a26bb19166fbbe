use Rattle.std.proofs.Common.{◌≡◌, ◌++◌, drop}
use Rattle.nx_locate.specs.Patterns.{filled}
use Rattle.nx_locate.proofs.uri_pattern.fill_all.Given as goal

abbrev pub invariant-loop-byte : goal.invariant-loop-byte
invariant-loop-byte l = l.out.items ++ filled (drop l.byte-index l.pattern) l.left ≡ l.fn.out.items ++ filled l.pattern l.runs
