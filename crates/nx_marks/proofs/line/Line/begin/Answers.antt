use Rattle.std.proofs.Common.{ap, arith}
use Rattle.nx_marks.specs.declared.mark.Mark.{Mark}
use Rattle.nx_marks.proofs.Holding.{began}
use Rattle.nx_marks.proofs.line.Line.begin.Goals as goal

pub invariant_of-self-2 : goal.invariant_of-self-2
invariant_of-self-2 g c =
    began c.self.inside.front c.push.new.self c.self.inside.aside c.self.inside.here c.in_ok-new.field-0 c.self.invariant c.push.ensures (ap (λ (x : Mark _). x.len) c.in_ok-new.ensures) (omega (arith, c.count.ensures, c.count-2.ensures, c.if-count.false))
