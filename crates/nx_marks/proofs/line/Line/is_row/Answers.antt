use Rattle.std.proofs.Common.{arith}
use Rattle.std.proofs.lemmas.Bool.Decides.{nat_tests}
use Rattle.nx_marks.proofs.Seen.{row-follows}
use Rattle.nx_marks.proofs.line.Line.is_row.Goals as goal

pub returns-clause-row : goal.returns-clause-row
returns-clause-row g c = λ t.
    rw (← c.self.view_is) (row-follows c.self.inside.front c.self.inside.here c.self.inside.marked c.self.inside.aside c.whole_count.result c.if-not-self.false (grind (arith, c.is_empty.ensures, c.if-is_empty.false)) c.whole_count.ensures (grind (arith, nat_tests, t, c.count.ensures)))
