use Rattle.std.proofs.Common.{length}
use Rattle.nx_session.specs.Reading.{meant}
use Rattle.nx_session.proofs.Reading.{later_grammar, later_live, later_sound, on_ok, reads_marks, will_reach}
use Rattle.nx_session.proofs.session.reading.caught_up.Goals as goal

pub returns-clause-well : goal.returns-clause-well
returns-clause-well g c = record {
  read = c.catch_up.ensures.right;
  live = later_live c.args.machine.now.matcher c.catch_up.new.machine.matcher c.catch_up.ensures.later c.requires.live;
  sound = later_sound c.args.machine.now.matcher c.catch_up.new.machine.matcher c.catch_up.ensures.later c.requires.sound;
}

pub returns-clause-grammar : goal.returns-clause-grammar
returns-clause-grammar g c = later_grammar c.args.machine.now.matcher c.catch_up.new.machine.matcher c.catch_up.ensures.later

pub returns-clause-border : goal.returns-clause-border
returns-clause-border g c = c.frontier_is_border.ensures c.catch_up.new.machine c.args.text.now c.catch_up.new.self.kept c.len-len.ensures.utf8 c.catch_up.ensures.right

pub returns-clause-marks : goal.returns-clause-marks
returns-clause-marks g c =
    let a = c.args.machine.now in
    let b = c.catch_up.new.machine in
    let k = c.args.marks.now.kept in
    let j = c.catch_up.new.self.kept in
    reads_marks a.matcher c.args.text.now (meant a.matcher k) (meant b.matcher j)
    (c.reading_on_keeps_meanings.ensures a b c.args.text.now k j c.catch_up.ensures.later c.requires.read c.catch_up.ensures.keeps)

pub returns-clause-few : goal.returns-clause-few
returns-clause-few g c =
    let a = c.args.machine.now in
    let t = c.args.text.now in
    let k = c.args.marks.now.kept in
    on_ok c.catch_up.result (λ most count will. most count (c.meanings_reach_as_states.ensures a t count (length t) k (will_reach a.matcher t count (length t) (meant a.matcher k) will))) c.catch_up.ensures.few

pub returns-clause-row : goal.returns-clause-row
returns-clause-row g c =
    let a = c.args.machine.now in
    let t = c.args.text.now in
    let k = c.args.marks.now.kept in
    on_ok c.catch_up.result (λ joined count end will. joined count end (c.meanings_reach_as_states.ensures a t count end k (will_reach a.matcher t count end (meant a.matcher k) will))) c.catch_up.ensures.joined
