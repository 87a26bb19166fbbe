use Rattle.std.proofs.Common.{ap}
use Rattle.nx_marks.specs.declared.mark.Mark.{Mark}
use Rattle.nx_marks.proofs.Passing.{passed_next}
use Rattle.nx_marks.proofs.line.Line.pass_next.Goals as goal

pub returns : goal.returns
returns g c =
    let k = c.self.inside in
    rw (← c.self.view_is) (passed_next k.front k.here c.pop_first-mark.result k.marked k.aside c.pop_first-mark.new.self c.get.result.now.len c.pop_first-mark.ensures (ap (λ (x : Mark _). x.len) c.get.ensures))
