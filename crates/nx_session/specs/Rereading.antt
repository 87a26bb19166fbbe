-- How few tokens are read again where one `insert` or `delete` comes between two `errors`.
use Rattle.std.specs.Prelude.{◌≡◌, ℕ, ◌<◌, ◌≤◌, List, [], length}
use Rattle.nx_base.specs.Rules.{Lexeme}
use Rattle.nx_base.specs.Running.{CutsTo, after_all}
use Rattle.nx_base.specs.declared.fault.Fault.{Fault}
use Rattle.nx_marks.specs.Chain.{FirstMeans, frontier_of}
use Rattle.nx_marks.specs.Editing.{place_after}
use Rattle.nx_marks.specs.Keeping.{next_of}
use Rattle.nx_marks.specs.Meant.{itself}
use Rattle.nx_recovery.specs.SameEvents.{SameEventsBehind}
use Rattle.nx_script.specs.Commands.{HasFitTexts}
use Rattle.nx_script.specs.declared.command.Command.{Command}
use Rattle.nx_script.specs.declared.command.Command.TheVariants as command
use Rattle.nx_script.specs.declared.reply.Reply.{Reply}
use Rattle.nx_script.specs.declared.reply.Reply.TheVariants as reply
use Rattle.nx_session.specs.Editor.{SessionState, FilesState, world}
use Rattle.nx_session.specs.Marks.{MarksAreRight, MarksStep}
use Rattle.nx_session.specs.Reading.{rules_for}
use Rattle.nx_session.specs.Step.{Step}
use Rattle.nx_views.specs.States.{ViewState}

-- what is promised of one command that is given to a session, among some files and views
pub record Applies (old : SessionState) (given : Command) (answer : Reply) (new : SessionState) : Type 0 where
  pub files : FilesState
  pub views : List ViewState
  pub steps : ℕ
  pub files_then : FilesState
  pub views_then : List ViewState
  pub steps_then : ℕ
  pub step : Step (world old.editor files views steps) given answer (world new.editor files_then views_then steps_then)
  pub marks : MarksStep old given answer new
  pub right : MarksAreRight new

-- the command is an `insert` or a `delete`, which puts bytes in the place of those from one place to another
abbrev pub IsInsertOrDelete : Command → ℕ → ℕ → List ℕ → Type 0
IsInsertOrDelete (command.Insert at text) from to added = (from ≡ at) × (to ≡ at) × (added ≡ text)
IsInsertOrDelete (command.Delete start end) from to added = (from ≡ start) × (to ≡ end) × (added ≡ [])
IsInsertOrDelete given from to added = ⊥

-- an `errors`, then one `insert` or `delete`, and then an `errors` again: all three are done
pub record EditBetweenErrors (read edited again : SessionState) (from to : ℕ) (added : List ℕ) : Type 0 where
  pub first : SessionState
  pub faults : List Fault
  pub reads : Applies first command.Errors (reply.Errors faults) read
  pub given : Command
  pub is_edit : IsInsertOrDelete given from to added
  pub utf8 : HasFitTexts given
  pub edits : Applies read given reply.Silent edited
  pub faults_again : List Fault
  pub rereads : Applies edited command.Errors (reply.Errors faults_again) again

-- so many tokens of the new text lead from the last mark before the edit, or from the start, to the first mark behind it, or to the
-- state at the old end where there is none, and to what that state means. No more are taken. Behind an edit that reaches the text's end
-- nothing stands, and nothing is said
abbrev pub RereadingTakesFew : Type 0
RereadingTakesFew = (read edited again : SessionState) (from to : ℕ) (added : List ℕ) (tokens : List Lexeme) →
    EditBetweenErrors read edited again from to added →
    CutsTo edited.editor.text (frontier_of edited.marks) tokens (next_of edited.marks) →
    FirstMeans itself (after_all (rules_for edited.editor.schema) edited.marks.here.state tokens) edited.marks.aside →
    again.editor.taken ≤ length tokens

-- between the same two marks, the tokens of the text before the edit and those of the text after it have the same events, and the open
-- elements with their scopes, the flags and the pending run are the same behind both: at a mark no run is pending. `place` is where the
-- second mark lay before the edit
pub record EventsAreAsBefore (read edited : SessionState) (from to : ℕ) (added : List ℕ) (tokens : List Lexeme) : Type 0 where
  pub place : ℕ
  pub behind : to < place
  pub moved : place_after from to (length added) place ≡ next_of edited.marks
  pub old_tokens : List Lexeme
  pub before : CutsTo read.editor.text (frontier_of edited.marks) old_tokens place
  pub now : CutsTo edited.editor.text (frontier_of edited.marks) tokens (next_of edited.marks)
  pub same : SameEventsBehind edited.marks.here.state.events old_tokens tokens

-- then these lead to what the second mark's state means, so no more tokens are taken than lie between the two marks
abbrev pub RereadingSameEventsTakesFew : Type 0
RereadingSameEventsTakesFew = (read edited again : SessionState) (from to : ℕ) (added : List ℕ) (tokens : List Lexeme) →
    EditBetweenErrors read edited again from to added → EventsAreAsBefore read edited from to added tokens →
    again.editor.taken ≤ length tokens
