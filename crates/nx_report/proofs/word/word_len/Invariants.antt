use Rattle.std.proofs.Common.{◌≡◌, ◌+◌, false, drop}
use Rattle.nx_report.specs.Words.{word_len}
use Rattle.nx_report.proofs.word.word_len.Given as goal

abbrev pub invariant-loop-i : goal.invariant-loop-i
invariant-loop-i l = l.i + word_len l.in_braces (drop l.i l.text) ≡ word_len false l.text
