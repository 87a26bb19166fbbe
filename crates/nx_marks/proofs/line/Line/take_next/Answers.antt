use Rattle.nx_marks.proofs.Passing.{taken_next}
use Rattle.nx_marks.proofs.line.Line.take_next.Goals as goal

pub returns : goal.returns
returns g c = rw (← c.self.view_is) (taken_next c.self.inside.front c.self.inside.here c.swap.new.mark c.pop_first-next.result c.self.inside.marked c.self.inside.aside c.pop_first-next.new.self c.pop_first-next.ensures c.swap.ensures.mark)
