-- What a command does to the marks, which a session keeps from one command to the next.
use Rattle.std.specs.Prelude.{◌≡◌, ℕ, ◌-◌, ◌<◌, ◌≤◌, List, [], length, Some, IsUtf8}
use Rattle.nx_base.specs.Rules.{Lexeme}
use Rattle.nx_base.specs.Running.{CutsTo, after_all}
use Rattle.nx_base.specs.Text.{IsPlace}
use Rattle.nx_base.specs.declared.change.Change.{Change}
use Rattle.nx_base.specs.declared.edit.Edit.{Edit}
use Rattle.nx_base.specs.declared.fault.Fault.{Fault}
use Rattle.nx_marks.specs.Bound.{WillJoin, WillReach}
use Rattle.nx_marks.specs.Chain.{FirstMeans, frontier_of}
use Rattle.nx_marks.specs.Editing.{edit_kept}
use Rattle.nx_marks.specs.Frontier.{MovesOver}
use Rattle.nx_marks.specs.Keeping.{KeepsMarks, next_of}
use Rattle.nx_marks.specs.Meant.{is_any, itself}
use Rattle.nx_marks.specs.Right.{IsRight}
use Rattle.nx_marks.specs.Starting.{started}
use Rattle.nx_script.specs.declared.command.Command.{Command}
use Rattle.nx_script.specs.declared.command.Command.TheVariants.{Nothing, OpenFile, Save, Insert, Delete, Print, Errors, Slice, Stats}
use Rattle.nx_script.specs.declared.command.Command.TheVariants.{SchemaFile, SchemaNone, SchemaAuto, Complete, Goto, Move, Next, Previous}
use Rattle.nx_script.specs.declared.command.Command.TheVariants.{Position, View, Close, Make, Finish, Split, Pair, Rename}
use Rattle.nx_script.specs.declared.reply.Reply.{Reply}
use Rattle.nx_script.specs.declared.reply.Reply.TheVariants.{Silent, Refused}
use Rattle.nx_script.specs.declared.reply.Reply.TheVariants as reply
use Rattle.nx_session.specs.Editing.{IsEdited}
use Rattle.nx_session.specs.Editor.{SessionState, edit_of}
use Rattle.nx_session.specs.Reading.{rules_for}
use Rattle.nx_session.specs.Tagging.{told_by}
use Rattle.nx_session.specs.Viewing.{whole_edit}
use Rattle.nx_tags.specs.Answers.{Answers}
use Rattle.nx_tags.specs.declared.command.TagCommand.{TagCommand}
use Rattle.nx_tags.specs.declared.command.TagCommand.TheVariants as tags

-- the text is UTF-8, the marks are right for it and the schema, and it is read as far as they tell
pub record MarksAreRight (now : SessionState) : Type 0 where
  pub utf8 : IsUtf8 now.editor.text
  pub right : IsRight is_any itself (rules_for now.editor.schema) now.editor.text now.marks
  pub frontier : now.editor.frontier ≡ frontier_of now.marks

abbrev pub SameMarks : SessionState → SessionState → Type 0
SameMarks old new = new.marks ≡ old.marks

-- one edit is told to the marks, where the command is done: those that it leaves stay, up to the frontier or aside
abbrev pub EditsMarks : Edit → SessionState → Reply → SessionState → Type 0
EditsMarks edit old (Refused cause) new = SameMarks old new
EditsMarks edit old reply new = new.marks ≡ edit_kept edit.from edit.to edit.added old.marks

-- the changes of a command on tags are told to the marks, where it is done
abbrev pub ChangesMarks : TagCommand → SessionState → Reply → SessionState → Type 0
ChangesMarks command old Silent new =
    (changes : List Change) × Answers old.editor.text command (Some changes) × (new.marks ≡ told_by changes old.marks)
ChangesMarks command old reply new = SameMarks old new

-- reading goes on from the marks: those up to the frontier stay, those aside go as far as it is read, each to stand there or since
-- tokens don't lead to it, and none is saved where none is due
abbrev pub ReadsMarksOn : SessionState → SessionState → Type 0
ReadsMarksOn old new = KeepsMarks itself (rules_for old.editor.schema) old.editor.text old.marks new.marks

-- where so many tokens lead to the first mark aside, and its row to the text's end, no more are taken
abbrev pub TakesFew : SessionState → SessionState → Type 0
TakesFew old new = (count : ℕ) → WillJoin itself (rules_for old.editor.schema) old.editor.text count old.marks → new.editor.taken ≤ count

-- where so many tokens lead to the first mark aside, its row is joined: of the tokens that are taken the others lie behind the row
abbrev pub JoinsRow : SessionState → SessionState → Type 0
JoinsRow old new = (count end : ℕ) → WillReach itself (rules_for old.editor.schema) old.editor.text count end old.marks →
    count ≤ new.editor.taken → MovesOver old.editor.text end (new.editor.taken - count) new.editor.frontier

-- where the text is read to its end, nothing is left aside
abbrev pub LeavesNone : SessionState → Type 0
LeavesNone new = new.editor.frontier ≡ length new.editor.text → new.marks.aside ≡ []

abbrev pub ReadsMarks : SessionState → Reply → SessionState → Type 0
ReadsMarks old (Refused cause) new = ReadsMarksOn old new
ReadsMarks old reply new = ReadsMarksOn old new × TakesFew old new × JoinsRow old new × LeavesNone new

-- with another schema all begins anew, where the command is done
abbrev pub BeginsMarks : SessionState → Reply → SessionState → Type 0
BeginsMarks old (Refused cause) new = SameMarks old new
BeginsMarks old reply new = new.marks ≡ started (rules_for new.editor.schema).first

-- what each command does to the marks
abbrev pub MarksStep : SessionState → Command → Reply → SessionState → Type 0
MarksStep old Nothing reply new = SameMarks old new
MarksStep old (OpenFile uri) reply new = EditsMarks (whole_edit old.editor new.editor) old reply new
MarksStep old (Save uri) reply new = SameMarks old new
MarksStep old (Insert at added) reply new = EditsMarks (edit_of at at added) old reply new
MarksStep old (Delete from to) reply new = EditsMarks (edit_of from to []) old reply new
MarksStep old Print reply new = SameMarks old new
MarksStep old Errors reply new = ReadsMarks old reply new
MarksStep old (Slice count) reply new = ReadsMarks old reply new
MarksStep old Stats reply new = SameMarks old new
MarksStep old (SchemaFile uri) reply new = BeginsMarks old reply new
MarksStep old SchemaNone reply new = BeginsMarks old reply new
MarksStep old SchemaAuto reply new = BeginsMarks old reply new
MarksStep old (Complete at) reply new = SameMarks old new
MarksStep old (Goto at) reply new = SameMarks old new
MarksStep old (Move way) reply new = SameMarks old new
MarksStep old Next reply new = SameMarks old new
MarksStep old Previous reply new = SameMarks old new
MarksStep old Position reply new = SameMarks old new
MarksStep old (View index) reply new = SameMarks old new
MarksStep old (Close index) reply new = SameMarks old new
MarksStep old (Make seed pieces) reply new = EditsMarks (whole_edit old.editor new.editor) old reply new
MarksStep old (Finish at) reply new = ChangesMarks (tags.Finish at) old reply new
MarksStep old (Split at) reply new = ChangesMarks (tags.Split at) old reply new
MarksStep old (Pair at name) reply new = ChangesMarks (tags.Pair at name) old reply new
MarksStep old (Rename at name) reply new = ChangesMarks (tags.Rename at name) old reply new

-- Three sessions, one behind another: `before` the edit, `edited`, and `after` the `errors` that follows. The premises are of four kinds.
--     The edit        puts UTF-8 between two places of the text, in order, and ends in front of the text's end.
--     Before it       the marks are right, the text is read to its end, and nothing is aside: as it is behind an `errors`.
--     What is done    the edit, in the editor and to the marks; then an `errors` that isn't refused.
--     What is left    these tokens of the new text lead from the last mark before the edit, or from the start, to the first mark behind
--                     it, and to what its state means.
-- Then `errors` takes no more tokens than these, however long the text is
abbrev pub OneEditTakesFew : Type 0
OneEditTakesFew = (before edited after : SessionState) (from to : ℕ) (added : List ℕ) (faults : List Fault) (left : List Lexeme) →
    IsUtf8 added → IsPlace before.editor.text from → IsPlace before.editor.text to → from ≤ to →
    to < length before.editor.text → MarksAreRight before → before.editor.frontier ≡ length before.editor.text → before.marks.aside ≡ [] →
    IsEdited from to added before.editor edited.editor → EditsMarks (edit_of from to added) before Silent edited →
    ReadsMarks edited (reply.Errors faults) after →
    CutsTo edited.editor.text (frontier_of edited.marks) left (next_of edited.marks) →
    FirstMeans itself (after_all (rules_for edited.editor.schema) edited.marks.here.state left) edited.marks.aside →
    after.editor.taken ≤ length left
