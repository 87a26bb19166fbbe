use Rattle.std.proofs.Common.{◌≡◌, ◌++◌, length}
use Rattle.nx_report.specs.Printed.{printed_text}
use Rattle.nx_report.proofs.printed.push_printed.Given as goal

abbrev pub invariant-loop-byte : goal.invariant-loop-byte
invariant-loop-byte l = l.out.items ++ printed_text l.left ≡ l.fn.out.items ++ printed_text l.text

abbrev pub decreases-loop-byte : goal.decreases-loop-byte
decreases-loop-byte l = length l.left
