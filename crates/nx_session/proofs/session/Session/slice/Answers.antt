use Rattle.std.proofs.Common.{ap}
use Rattle.deriv_pool.specs.Later.{meaning_of}
use Rattle.nx_marks.specs.Meant.{marks_by}
use Rattle.nx_recover.specs.Machine.{means_by}
use Rattle.nx_session.proofs.session.Session.slice.Goals as goal

pub returns-clause-marks : goal.returns-clause-marks
returns-clause-marks g c =
    rw (← c.self.view_is) (c.sliced.ensures.marks, c.in_ok-sliced.ensures.few, c.in_ok-sliced.ensures.row, λ all. ap (marks_by (means_by meaning_of c.sliced.new.machine.matcher)) (c.sliced.ensures.aside all))
