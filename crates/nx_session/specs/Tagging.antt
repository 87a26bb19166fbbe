-- Commands on tags: the changes that the table of these commands has are edits of the text, one after another.
use Rattle.std.specs.Prelude.{◌≡◌, List, [], ◌∷◌, length, map, Some, None}
use Rattle.nx_base.specs.Text.{IsPlace}
use Rattle.nx_base.specs.declared.change.Change.{Change}
use Rattle.nx_base.specs.declared.edit.Edit.{Edit}
use Rattle.nx_marks.specs.Chain.{Kept}
use Rattle.nx_marks.specs.Editing.{edit_kept}
use Rattle.nx_script.specs.declared.reply.Reply.{Reply}
use Rattle.nx_script.specs.declared.reply.Reply.TheVariants.{Silent, Stay, Refused}
use Rattle.nx_script.specs.declared.reply.Refusal.TheVariants.{BadPosition, NoMemory}
use Rattle.nx_session.specs.Editing.{IsEdited}
use Rattle.nx_session.specs.Editor.{EditorState, edit_of}
use Rattle.nx_tags.specs.Answers.{Answers, place_of}
use Rattle.nx_tags.specs.declared.command.TagCommand.{TagCommand}
use Rattle.nx_text.specs.Changing.{AreChanges}
use Rattle.nx_views.specs.States.{ViewState, moved_view}

-- a change is this edit
abbrev pub edit_by : Change → Edit
edit_by change = edit_of change.from change.to change.text

-- changes are made one after another, each an edit of the text
abbrev pub AreMade : List Change → EditorState → EditorState → Type 0
AreMade [] old new = new ≡ old
AreMade (change ∷ others) old new =
    (between : EditorState) × IsEdited change.from change.to change.text old between × AreMade others between new

-- each moves what the views show with the text
abbrev pub shifted_by : List Change → List ViewState → List ViewState
shifted_by [] views = views
shifted_by (change ∷ others) views = shifted_by others (map (moved_view (edit_by change)) views)

-- each is told to the marks
abbrev pub told_by : {S : Type 0} → List Change → Kept S → Kept S
told_by [] kept = kept
told_by (change ∷ others) kept = told_by others (edit_kept change.from change.to (length change.text) kept)

-- the table's changes are made, and the reply is `stay` exactly where it has none. How many tokens are cut for that isn't said
abbrev pub TagStep : TagCommand → EditorState → List ViewState → Reply → EditorState → List ViewState → Type 0
TagStep command old before Silent new behind =
    IsPlace old.text (place_of command)
    × (changes : List Change) × Answers old.text command (Some changes) × AreChanges old.text changes × AreMade changes old new
    × (behind ≡ shifted_by changes before)
TagStep command old before Stay new behind =
    IsPlace old.text (place_of command) × Answers old.text command None × (new ≡ old) × (behind ≡ before)
TagStep command old before (Refused (BadPosition wrong len)) new behind =
    ¬ (IsPlace old.text (place_of command)) × (wrong ≡ place_of command) × (len ≡ length old.text) × (new ≡ old) × (behind ≡ before)
TagStep command old before (Refused NoMemory) new behind = IsPlace old.text (place_of command) × (new ≡ old) × (behind ≡ before)
TagStep command old before reply new behind = ⊥
