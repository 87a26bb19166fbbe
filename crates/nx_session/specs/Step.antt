-- One step of the editor: the table of commands, each with its one definition. What no case allows doesn't happen.
use Rattle.std.specs.Prelude.{◌≡◌, ℕ, ◌⊎◌, List, [], None}
use Rattle.nx_script.specs.Grammar.{IsLine}
use Rattle.nx_script.specs.declared.command.Command.{Command}
use Rattle.nx_script.specs.declared.command.Command.TheVariants.{Nothing, OpenFile, Save, Insert, Delete, Print, Errors, Slice, Stats}
use Rattle.nx_script.specs.declared.command.Command.TheVariants.{SchemaFile, SchemaNone, SchemaAuto, Complete, Goto, Move, Next, Previous}
use Rattle.nx_script.specs.declared.command.Command.TheVariants.{Position, View, Close, Make, Finish, Split, Pair, Rename}
use Rattle.nx_script.specs.declared.reply.Reply.{Reply}
use Rattle.nx_script.specs.declared.reply.Reply.TheVariants.{Silent, Refused}
use Rattle.nx_script.specs.declared.reply.Refusal.{Refusal}
use Rattle.nx_script.specs.declared.reply.Refusal.TheVariants.{BadCommand, NoMemory}
use Rattle.nx_base.specs.declared.edit.Edit.{Edit}
use Rattle.nx_session.specs.Editor.{EditorState, FilesState, World, edit_of}
use Rattle.nx_session.specs.Asking.{CompleteStep}
use Rattle.nx_session.specs.Editing.{InsertStep, DeleteStep, PrintStep}
use Rattle.nx_session.specs.Documents.{OpenStep, SaveStep, MakeStep}
use Rattle.nx_session.specs.Locating.{SchemaAutoStep}
use Rattle.nx_session.specs.Moving.{GotoStep, NextStep, PreviousStep, PositionStep, MoveStep}
use Rattle.nx_session.specs.Schemas.{SchemaFileStep, HoldStep}
use Rattle.nx_session.specs.Tagging.{TagStep}
use Rattle.nx_session.specs.Validating.{ErrorsStep, SliceStep, StatsStep}
use Rattle.nx_session.specs.Viewing.{MovesViews, whole_edit, ShowsViews, ViewStep, CloseStep}
use Rattle.nx_tags.specs.declared.command.TagCommand.TheVariants as tags
use Rattle.nx_views.specs.States.{ViewState}

-- a line that is passed over
abbrev pub NothingStep : EditorState → Reply → EditorState → Type 0
NothingStep old Silent new = new ≡ old
NothingStep old reply new = ⊥

-- a step of a command on the editor alone
abbrev pub OnEditor : (EditorState → Reply → EditorState → Type 0) → World → Reply → World → Type 0
OnEditor step old reply new =
    step old.editor reply new.editor × (new.files ≡ old.files) × (new.views ≡ old.views) × (new.steps ≡ old.steps)

-- a step of a command that edits the text by this edit, where it is done
abbrev pub OnText : (EditorState → Reply → EditorState → Type 0) → Edit → World → Reply → World → Type 0
OnText step edit old reply new =
    step old.editor reply new.editor × (new.files ≡ old.files) × MovesViews edit old.views reply new.views × (new.steps ≡ old.steps)

-- a step of a command on files
abbrev pub OnFiles : (EditorState → FilesState → Reply → EditorState → FilesState → Type 0) → World → Reply → World → Type 0
OnFiles step old reply new =
    step old.editor old.files reply new.editor new.files × (new.views ≡ old.views) × (new.steps ≡ old.steps)

-- a step of a command on files for which tokens are cut, however many
abbrev pub CutsTokensOfFiles : (EditorState → FilesState → Reply → EditorState → FilesState → Type 0) → World → Reply → World → Type 0
CutsTokensOfFiles step old reply new = step old.editor old.files reply new.editor new.files × (new.views ≡ old.views)

-- a step of a command on files that edits the whole text, where it is done
abbrev pub OnDocument : (EditorState → FilesState → Reply → EditorState → FilesState → Type 0) → World → Reply → World → Type 0
OnDocument step old reply new =
    step old.editor old.files reply new.editor new.files
    × MovesViews (whole_edit old.editor new.editor) old.views reply new.views × (new.steps ≡ old.steps)

-- a step of a command that cuts tokens
abbrev pub CountsTokens : (EditorState → ℕ → Reply → EditorState → ℕ → Type 0) → World → Reply → World → Type 0
CountsTokens step old reply new =
    step old.editor old.steps reply new.editor new.steps × (new.files ≡ old.files) × (new.views ≡ old.views)

-- a step of a command on the editor alone for which tokens are cut, however many
abbrev pub CutsTokens : (EditorState → Reply → EditorState → Type 0) → World → Reply → World → Type 0
CutsTokens step old reply new = step old.editor reply new.editor × (new.files ≡ old.files) × (new.views ≡ old.views)

-- a step of a command on the editor and the views for which tokens are cut, however many
abbrev pub CutsTokensAndShifts : (EditorState → List ViewState → Reply → EditorState → List ViewState → Type 0) → World → Reply → World →
    Type 0
CutsTokensAndShifts step old reply new = step old.editor old.views reply new.editor new.views × (new.files ≡ old.files)

-- a step of a command that cuts tokens, and shows the faults that it finds
abbrev pub OnFaults : (EditorState → ℕ → Reply → EditorState → ℕ → Type 0) → World → Reply → World → Type 0
OnFaults step old reply new =
    step old.editor old.steps reply new.editor new.steps × (new.files ≡ old.files) × ShowsViews old.editor old.views reply new.views

-- a step of a command on views alone
abbrev pub OnViews : (List ViewState → Reply → List ViewState → Type 0) → World → Reply → World → Type 0
OnViews step old reply new =
    step old.views reply new.views × (new.editor ≡ old.editor) × (new.files ≡ old.files) × (new.steps ≡ old.steps)

-- in the old world the editor may give this reply to the command, and leave the new world
abbrev pub Step : World → Command → Reply → World → Type 0
Step old Nothing reply new = OnEditor NothingStep old reply new
Step old (OpenFile uri) reply new = OnDocument (OpenStep uri) old reply new
Step old (Save uri) reply new = OnFiles (SaveStep uri) old reply new
Step old (Insert at added) reply new = OnText (InsertStep at added) (edit_of at at added) old reply new
Step old (Delete from to) reply new = OnText (DeleteStep from to) (edit_of from to []) old reply new
Step old Print reply new = OnEditor PrintStep old reply new
Step old Errors reply new = OnFaults ErrorsStep old reply new
Step old (Slice count) reply new = CountsTokens (SliceStep count) old reply new
Step old Stats reply new = OnEditor StatsStep old reply new
Step old (SchemaFile uri) reply new = CutsTokensOfFiles (SchemaFileStep uri) old reply new
Step old SchemaNone reply new = OnEditor (HoldStep None) old reply new
Step old SchemaAuto reply new = CutsTokensOfFiles SchemaAutoStep old reply new
Step old (Complete at) reply new = CutsTokens (CompleteStep at) old reply new
Step old (Goto at) reply new = OnEditor (GotoStep at) old reply new
Step old (Move way) reply new = CutsTokens (MoveStep way) old reply new
Step old Next reply new = OnEditor NextStep old reply new
Step old Previous reply new = OnEditor PreviousStep old reply new
Step old Position reply new = OnEditor PositionStep old reply new
Step old (View index) reply new = OnViews (ViewStep index) old reply new
Step old (Close index) reply new = OnViews (CloseStep index) old reply new
Step old (Make seed pieces) reply new = OnText (MakeStep seed pieces) (whole_edit old.editor new.editor) old reply new
Step old (Finish at) reply new = CutsTokensAndShifts (TagStep (tags.Finish at)) old reply new
Step old (Split at) reply new = CutsTokensAndShifts (TagStep (tags.Split at)) old reply new
Step old (Pair at name) reply new = CutsTokensAndShifts (TagStep (tags.Pair at name)) old reply new
Step old (Rename at name) reply new = CutsTokensAndShifts (TagStep (tags.Rename at name)) old reply new

-- the text, the caret, the document's URI, the schema and the rules are as before
pub record SameDocument (old new : EditorState) : Type 0 where
  pub text : new.text ≡ old.text
  pub caret : new.caret ≡ old.caret
  pub document : new.document ≡ old.document
  pub schema : new.schema ≡ old.schema
  pub locating : new.locating ≡ old.locating

-- whatever the cause, a refused command leaves the text, the caret, the document's URI, the schema and the rules
abbrev pub RefusalsLeaveTheDocument : Type 0
RefusalsLeaveTheDocument = (old new : World) (given : Command) (cause : Refusal) →
    Step old given (Refused cause) new → SameDocument old.editor new.editor

-- what a line of a script may do: it is a command, and a step; or it is none, and refused; or there was no memory to read it
abbrev pub LineStep : World → List ℕ → Reply → World → Type 0
LineStep old line reply new =
    ((read : Command) × IsLine line read × Step old read reply new)
    ⊎ (((read : Command) → IsLine line read → ⊥) × (reply ≡ Refused BadCommand) × (new ≡ old))
    ⊎ ((reply ≡ Refused NoMemory) × (new ≡ old))
