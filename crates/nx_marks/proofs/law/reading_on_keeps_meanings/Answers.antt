use Rattle.nx_marks.proofs.Meant.{keeps_over}
use Rattle.nx_marks.proofs.law.reading_on_keeps_meanings.Goals as goal

pub returns : goal.returns
returns g c = λ earlier now text old new is_later right keeps.
    let m = g.A.Machine in
    keeps_over m.later m.is_state m.means m.rules g.met.A.Machine.laws earlier now text old new is_later right keeps
