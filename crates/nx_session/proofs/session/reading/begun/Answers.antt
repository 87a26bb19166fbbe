use Rattle.nx_session.proofs.Reading.{begun_marks, later_grammar, later_live, later_sound}
use Rattle.nx_session.proofs.session.reading.begun.Goals as goal

pub returns-clause-well : goal.returns-clause-well
returns-clause-well c = λ text utf8. record {
  read = c.in_ok-marks.ensures.right text utf8;
  live = later_live c.args.machine.now.matcher c.new.new.machine.matcher c.new.ensures.later c.requires.live;
  sound = later_sound c.args.machine.now.matcher c.new.new.machine.matcher c.new.ensures.later c.requires.sound;
}

pub returns-clause-grammar : goal.returns-clause-grammar
returns-clause-grammar c = later_grammar c.args.machine.now.matcher c.new.new.machine.matcher c.new.ensures.later

pub returns-in_err-marks-clause-grammar : goal.returns-in_err-marks-clause-grammar
returns-in_err-marks-clause-grammar c = later_grammar c.args.machine.now.matcher c.new.new.machine.matcher c.new.ensures.later

pub returns-clause-marks : goal.returns-clause-marks
returns-clause-marks c = begun_marks c.args.machine.now.matcher c.new.new.machine.matcher _ c.new.ensures.later c.in_ok-marks.ensures.meant
