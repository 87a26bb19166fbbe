-- what was added, and what is left of the string as it is written
use Rattle.std.proofs.Common.{◌≡◌, ◌++◌, length}
use Rattle.nx_written.specs.Escaping.{escaped}
use Rattle.nx_written.proofs.escape.push_escaped.Given as goal

abbrev pub invariant-bytes : goal.invariant-bytes
invariant-bytes l = l.out.items ++ escaped l.rest ≡ l.fn.out.items ++ escaped l.string

abbrev pub decreases-bytes : goal.decreases-bytes
decreases-bytes l = length l.rest
