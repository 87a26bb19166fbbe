use Rattle.std.proofs.Common.{length}
use Rattle.nx_session.specs.Reading.{meant}
use Rattle.nx_session.proofs.Reading.{later_grammar, later_live, later_sound, on_ok, reads_marks, will_reach}
use Rattle.nx_session.proofs.session.reading.sliced.Goals as goal

pub returns-clause-well : goal.returns-clause-well
returns-clause-well g c = record {
  read = c.slice.ensures.right;
  live = later_live c.args.machine.now.matcher c.slice.new.machine.matcher c.slice.ensures.later c.requires.live;
  sound = later_sound c.args.machine.now.matcher c.slice.new.machine.matcher c.slice.ensures.later c.requires.sound;
}

pub returns-clause-grammar : goal.returns-clause-grammar
returns-clause-grammar g c = later_grammar c.args.machine.now.matcher c.slice.new.machine.matcher c.slice.ensures.later

pub returns-clause-border : goal.returns-clause-border
returns-clause-border g c = c.frontier_is_border.ensures c.slice.new.machine c.args.text.now c.slice.new.self.kept c.len-len.ensures.utf8 c.slice.ensures.right

pub returns-clause-marks : goal.returns-clause-marks
returns-clause-marks g c =
    let a = c.args.machine.now in
    let b = c.slice.new.machine in
    let k = c.args.marks.now.kept in
    let j = c.slice.new.self.kept in
    reads_marks a.matcher c.args.text.now (meant a.matcher k) (meant b.matcher j)
    (c.reading_on_keeps_meanings.ensures a b c.args.text.now k j c.slice.ensures.later c.requires.read c.slice.ensures.keeps)

pub returns-clause-few : goal.returns-clause-few
returns-clause-few g c =
    let a = c.args.machine.now in
    let t = c.args.text.now in
    let k = c.args.marks.now.kept in
    on_ok c.slice.result (λ most count will. most count (c.meanings_reach_as_states.ensures a t count (length t) k (will_reach a.matcher t count (length t) (meant a.matcher k) will))) c.slice.ensures.few

pub returns-clause-row : goal.returns-clause-row
returns-clause-row g c =
    let a = c.args.machine.now in
    let t = c.args.text.now in
    let k = c.args.marks.now.kept in
    on_ok c.slice.result (λ joined count end will. joined count end (c.meanings_reach_as_states.ensures a t count end k (will_reach a.matcher t count end (meant a.matcher k) will))) c.slice.ensures.joined
