use Rattle.std.proofs.Common.{ℕ, ◌≤◌, subst}
use Rattle.nx_session.proofs.Asking.{in_front, behind_tokens, offers_print}
use Rattle.nx_session.proofs.Reading.{later_live, later_sound}
use Rattle.nx_session.proofs.session.reading.offered.Goals as goal

pub offers-requires-clause-before : goal.offers-requires-clause-before
offers-requires-clause-before g c =
    let mark = c.in_ok-from.ensures c.args.text.now c.len-len.ensures.utf8 c.requires.well.read in
    let P : ℕ → Type 0 = λ n. c.in_ok-from.from ≤ n in
    in_front c.in_ok-from.from c.args.at (subst P c.saturating_sub.ensures mark.last.before)

pub offers-requires-clause-behind : goal.offers-requires-clause-behind
offers-requires-clause-behind g c = behind_tokens _ _ _ _ _ _ _ _ (c.in_ok-from.ensures c.args.text.now c.len-len.ensures.utf8 c.requires.well.read)

pub returns-clause-well : goal.returns-clause-well
returns-clause-well g c = record {
  read = c.later_machines_keep_it_right.ensures c.args.machine.now c.offers.new.machine c.args.text.now c.args.marks.now.kept c.offers.ensures.later c.requires.well.read;
  live = later_live c.args.machine.now.matcher c.offers.new.machine.matcher c.offers.ensures.later c.requires.well.live;
  sound = later_sound c.args.machine.now.matcher c.offers.new.machine.matcher c.offers.ensures.later c.requires.well.sound;
}

pub returns-clause-text : goal.returns-clause-text
returns-clause-text g c =
    offers_print c.args.machine.now.matcher c.requires.well.live c.requires.well.sound c.args.text.now c.len-len.ensures.utf8 c.args.at c.offers.result c.offers.ensures.offers

pub returns-clause-marks : goal.returns-clause-marks
returns-clause-marks g c = c.later_machines_mean_the_same.ensures c.args.machine.now c.offers.new.machine c.args.text.now c.args.marks.now.kept c.offers.ensures.later c.requires.well.read
