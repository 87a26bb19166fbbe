use Rattle.std.proofs.Common.{sym}
use Rattle.nx_session.proofs.Reading.{are_faults, details_text, later_grammar, later_live, later_sound}
use Rattle.nx_session.proofs.session.reading.found.Goals as goal

pub returns-clause-well : goal.returns-clause-well
returns-clause-well c = record {
  read = c.later_machines_keep_it_right.ensures c.args.machine.now c.faults.new.machine c.args.text.now c.args.marks.now.kept c.faults.ensures.later c.requires.well.read;
  live = later_live c.args.machine.now.matcher c.faults.new.machine.matcher c.faults.ensures.later c.requires.well.live;
  sound = later_sound c.args.machine.now.matcher c.faults.new.machine.matcher c.faults.ensures.later c.requires.well.sound;
}

pub returns-in_err-faults-clause-well : goal.returns-in_err-faults-clause-well
returns-in_err-faults-clause-well c = record {
  read = c.later_machines_keep_it_right.ensures c.args.machine.now c.faults.new.machine c.args.text.now c.args.marks.now.kept c.faults.ensures.later c.requires.well.read;
  live = later_live c.args.machine.now.matcher c.faults.new.machine.matcher c.faults.ensures.later c.requires.well.live;
  sound = later_sound c.args.machine.now.matcher c.faults.new.machine.matcher c.faults.ensures.later c.requires.well.sound;
}

pub returns-clause-grammar : goal.returns-clause-grammar
returns-clause-grammar c = later_grammar c.args.machine.now.matcher c.faults.new.machine.matcher c.faults.ensures.later

pub returns-in_err-faults-clause-grammar : goal.returns-in_err-faults-clause-grammar
returns-in_err-faults-clause-grammar c = later_grammar c.args.machine.now.matcher c.faults.new.machine.matcher c.faults.ensures.later

pub returns-clause-faults : goal.returns-clause-faults
returns-clause-faults c = are_faults c.args.text.now c.args.machine.now.matcher c.in_ok-faults.faults c.len-len.ensures.utf8 c.requires.well.live
    (c.in_ok-faults.ensures.faults c.args.text.now c.len-len.ensures.utf8 (sym c.len-len.ensures.bytes) c.requires.well.read)

pub returns-clause-text : goal.returns-clause-text
returns-clause-text c = details_text c.args.text.now c.args.machine.now.matcher c.in_ok-faults.faults c.len-len.ensures.utf8 c.requires.well.live
    (c.in_ok-faults.ensures.faults c.args.text.now c.len-len.ensures.utf8 (sym c.len-len.ensures.bytes) c.requires.well.read)

pub returns-clause-marks : goal.returns-clause-marks
returns-clause-marks c = c.later_machines_mean_the_same.ensures c.args.machine.now c.faults.new.machine c.args.text.now c.args.marks.now.kept c.faults.ensures.later c.requires.well.read

pub returns-in_err-faults-clause-marks : goal.returns-in_err-faults-clause-marks
returns-in_err-faults-clause-marks c = c.later_machines_mean_the_same.ensures c.args.machine.now c.faults.new.machine c.args.text.now c.args.marks.now.kept c.faults.ensures.later c.requires.well.read
