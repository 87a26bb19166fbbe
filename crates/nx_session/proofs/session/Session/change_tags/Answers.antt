use Rattle.std.proofs.Common.{ap, refl, sym, subst}
use Rattle.nx_session.specs.Editor.{SessionState}
use Rattle.nx_session.specs.Viewing.{ViewsAreText}
use Rattle.nx_session.proofs.Telling.{shifted_by_text}
use Rattle.nx_session.proofs.Tagging.{is_done, marks_told, stays}
use Rattle.nx_session.proofs.session.Session.change_tags.Goals as goal

pub make_changes-requires-clause-changes : goal.make_changes-requires-clause-changes
make_changes-requires-clause-changes g c = rw c.in-Some.is at c.in_ok-changes.ensures.changes

pub make_changes-requires-clause-fit : goal.make_changes-requires-clause-fit
make_changes-requires-clause-fit g c = rw c.in-Some.is at c.in_ok-changes.ensures.fit

pub returns-in_ok-make_changes-in-Some-clause-step : goal.returns-in_ok-make_changes-in-Some-clause-step
returns-in_ok-make_changes-in-Some-clause-step g c =
    is_done c.args.command.now _ _ _ _ _ c.in-Some.changes c.in-Some.is c.requires.place c.in_ok-changes.ensures.answer c.in_ok-changes.ensures.changes
    c.in_ok-make_changes-in-Some.ensures.made c.in_ok-make_changes-in-Some.ensures.moved

pub returns-in_ok-make_changes-in-Some-clause-marks : goal.returns-in_ok-make_changes-in-Some-clause-marks
returns-in_ok-make_changes-in-Some-clause-marks g c =
    marks_told c.args.command.now c.args.self.now c.make_changes.new.self _ c.in-Some.changes c.in-Some.is c.in_ok-changes.ensures.answer c.in_ok-make_changes-in-Some.ensures.marks

pub returns-in_ok-make_changes-in-Some-clause-views_text : goal.returns-in_ok-make_changes-in-Some-clause-views_text
returns-in_ok-make_changes-in-Some-clause-views_text g c = λ h. subst ViewsAreText (sym c.in_ok-make_changes-in-Some.ensures.moved) (shifted_by_text c.in-Some.changes _ h)

pub returns-in-None-clause-step : goal.returns-in-None-clause-step
returns-in-None-clause-step g c = stays c.args.command.now _ _ _ _ _ c.in-None.is c.requires.place c.in_ok-changes.ensures.answer refl refl
