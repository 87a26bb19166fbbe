use Rattle.nx_marks.proofs.Marking.{led_there, mark_before_right}
use Rattle.nx_marks.proofs.marks.Marks.mark_before.Goals as goal

pub copy-requires : goal.copy-requires
copy-requires g c =
    let m = g.A.Machine in
    let a = c.args.machine.now in
    (led_there (m.is_state a) (m.means a) (m.rules a) (g.met.A.Machine.rule_laws a) c.requires.text c.args.at c.mark_before-place.result.0 c.args.self.now.kept c.mark_before-place.result.1.now c.requires.right c.mark_before-place.ensures).own

pub returns : goal.returns
returns g c = λ text utf8 right.
    let m = g.A.Machine in
    let a = c.args.machine.now in
    mark_before_right (m.is_state a) (m.means a) (m.rules a) (g.met.A.Machine.rule_laws a) text c.args.at c.mark_before-place.result.0 c.args.self.now.kept c.mark_before-place.result.1.now c.in_ok-state.state utf8 right c.mark_before-place.ensures
    c.in_ok-state.ensures.state c.in_ok-state.ensures.meaning
