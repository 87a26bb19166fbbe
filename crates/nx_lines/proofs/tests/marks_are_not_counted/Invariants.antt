use Rattle.nx_lines.specs.Cursors.{IsAtPlace}
use Rattle.nx_lines.proofs.tests.marks_are_not_counted.Given as goal

abbrev pub invariant-loop-row : goal.invariant-loop-row
invariant-loop-row g l = IsAtPlace l.text l.bytes × IsAtPlace l.text l.characters
