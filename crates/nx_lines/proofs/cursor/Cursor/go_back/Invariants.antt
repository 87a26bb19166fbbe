use Rattle.std.proofs.Common.{◌≡◌}
use Rattle.nx_lines.specs.Cursors.{IsAtPlace}
use Rattle.nx_lines.proofs.cursor.Cursor.go_back.Given as goal

abbrev pub invariant-loop-self : goal.invariant-loop-self
invariant-loop-self l = record {
  place : IsAtPlace l.text l.self;
  encoding : l.self.encoding ≡ l.fn.self.encoding;
}

abbrev pub decreases-loop-self : goal.decreases-loop-self
decreases-loop-self l = l.self.at
