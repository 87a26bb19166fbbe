use Rattle.std.proofs.Common.{◌≡◌, ℕ, ◌-◌, ◌<◌, ◌≤◌, ◌⊎◌, arith, subst}
use Rattle.nx_session.proofs.Tagging.{found_fit}
use Rattle.nx_session.proofs.TagReading.{before_place, known_at_mark}
use Rattle.nx_session.proofs.session.reading.tag_changes.Goals as goal

pub changes_from-requires-clause-before : goal.changes_from-requires-clause-before
changes_from-requires-clause-before g c =
    let mark = c.in_ok-from.ensures c.args.text.now c.len-len.ensures.utf8 c.requires.well.read in
    let P : ℕ → Type 0 = λ n. c.in_ok-from.from ≤ n in
    let Q : ℕ → Type 0 = λ n. (c.in_ok-from.from < n) ⊎ (c.in_ok-from.from ≡ 0) in
    subst Q c.place.ensures (before_place c.in_ok-from.from c.place.result (subst P c.saturating_sub.ensures mark.last.before))

pub changes_from-requires-clause-known : goal.changes_from-requires-clause-known
changes_from-requires-clause-known g c =
    known_at_mark c.args.machine.now.matcher c.args.text.now c.saturating_sub.result c.args.marks.now.kept c.in_ok-from.from c.in_ok-from.state c.len-len.ensures.utf8
    (c.in_ok-from.ensures c.args.text.now c.len-len.ensures.utf8 c.requires.well.read)

pub returns-clause-fit : goal.returns-clause-fit
returns-clause-fit g c =
    found_fit c.args.text.now c.args.command.now c.changes_from.result c.len-len.ensures.utf8 (omega (arith, c.len-len.ensures.bytes))
    c.changes_from.ensures.table c.changes_from.ensures.changes
