use Rattle.std.proofs.Common.{sym, subst}
use Rattle.nx_base.specs.Text.{IsPlace}
use Rattle.nx_session.specs.Editor.{SessionState}
use Rattle.nx_tags.specs.Answers.{place_of}
use Rattle.nx_session.proofs.session.Session.wanted.Goals as goal

pub tag_changes-requires-clause-place : goal.tag_changes-requires-clause-place
tag_changes-requires-clause-place g c =
    let P : SessionState → Type 0 = λ s. IsPlace s.editor.text (place_of c.args.command.now) in
    subst P (sym c.self.view_is) c.requires.place

pub returns-clause-answer : goal.returns-clause-answer
returns-clause-answer g c = rw (← c.self.view_is) c.tag_changes.ensures.answer

pub returns-clause-changes : goal.returns-clause-changes
returns-clause-changes g c = rw (← c.self.view_is) c.tag_changes.ensures.changes

pub returns-clause-fit : goal.returns-clause-fit
returns-clause-fit g c = rw (← c.self.view_is) c.tag_changes.ensures.fit
