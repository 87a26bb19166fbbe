-- Editors of which the text is UTF-8 and the schema live, as all are to which commands lead from a new one.
use Rattle.std.proofs.Common.{◌≡◌, ℕ, zero, suc, ◌%◌, ◌/◌, Bool, true, false, cond, eqb, List, [], ◌∷◌, ◌++◌, codes, Option, Some, None, IsUtf8, refl, sym, ap, subst, inl, inr}
use Rattle.std.specs.Prelude.{IfSome}
use Rattle.std.specs.Fmt.{decimal}
use Rattle.std.proofs.lemmas.Str.{IsUtf8-append, IsUtf8-nil}
use Rattle.nx_base.specs.Text.{edited, EditedIsUtf8}
use Rattle.nx_base.specs.declared.change.Change.{Change}
use Rattle.nx_base.specs.declared.way.Way.{Way}
use Rattle.nx_script.proofs.Printed.{decimal_text, word_text}
use Rattle.nx_script.specs.declared.command.Command.{Command}
use Rattle.nx_script.specs.declared.command.Command.TheVariants.{Nothing, OpenFile, Save, Insert, Delete, Print, Errors, Slice, Stats}
use Rattle.nx_script.specs.declared.command.Command.TheVariants.{SchemaFile, SchemaNone, SchemaAuto, Complete, Goto, Move, Next, Previous}
use Rattle.nx_script.specs.declared.command.Command.TheVariants.{Position, View, Close, Make, Finish, Split, Pair, Rename}
use Rattle.nx_script.specs.declared.reply.Reply.{Reply}
use Rattle.nx_script.specs.declared.reply.Reply.TheVariants.{Silent, Printed, Frontier, Taken, Located, Offered, Caret, Stay, Refused}
use Rattle.nx_script.specs.declared.reply.Reply.TheVariants as reply
use Rattle.nx_script.specs.declared.reply.Refusal.TheVariants.{BadPosition, BadUri, Absent, NotUtf8, Failed, NoMemory}
use Rattle.nx_session.specs.Asking.{CompleteStep}
use Rattle.nx_session.specs.Documents.{OpenStep, SaveStep, MakeStep}
use Rattle.nx_session.specs.Editing.{InsertStep, DeleteStep, PrintStep}
use Rattle.nx_session.specs.Editor.{EditorState, FilesState, World, new_editor, edited_editor, schema_of}
use Rattle.nx_session.specs.LargeDocuments.{comment_text, paragraph_text, number_at, piece_text, pieces_text, opening_text, large_document}
use Rattle.nx_session.specs.Locating.{SchemaAutoStep}
use Rattle.nx_session.specs.Moving.{GotoStep, NextStep, PreviousStep, PositionStep, MoveStep}
use Rattle.nx_session.specs.Schemas.{HoldsFile, SchemaFileStep, HoldStep}
use Rattle.nx_session.specs.Step.{NothingStep, Step}
use Rattle.nx_session.specs.Tagging.{AreMade, TagStep}
use Rattle.nx_session.specs.Validating.{ReadsOn, ErrorsStep, SliceStep, StatsStep}
use Rattle.nx_session.proofs.Changing.{others_stay}
use Rattle.nx_tags.specs.declared.command.TagCommand.{TagCommand}
use Rattle.nx_tags.specs.declared.command.TagCommand.TheVariants as tags
use Rattle.nx_text.specs.Changing.{AreChanges}
use Rattle.nx_views.specs.States.{ViewState}
use Rattle.rng_kept.specs.Live.{IsLive}

-- the text is UTF-8, and the schema that it is held against, if it is, is live
pub record IsFit (editor : EditorState) : Type 0 where
  pub utf8 : IsUtf8 editor.text
  pub live : IfSome (schema_of editor) IsLive

pub new_fit : (rules : Option (List ℕ)) → IsFit (new_editor rules)
new_fit rules = record { utf8 = IsUtf8-nil; live = tt }

same_fit : (old new : EditorState) → new ≡ old → IsFit old → IsFit new
same_fit old new e fit = subst IsFit (sym e) fit

-- ---- a large document

either_text : (b : Bool) (one other : List ℕ) → IsUtf8 one → IsUtf8 other → IsUtf8 (cond b one other)
either_text true one other h k = h
either_text false one other h k = k

around_number : (front behind : List ℕ) (n : ℕ) → IsUtf8 front → IsUtf8 behind → IsUtf8 (front ++ decimal n ++ behind)
around_number front behind n h k = IsUtf8-append (front ++ decimal n) behind (IsUtf8-append front (decimal n) h (decimal_text n)) k

comment_is_text : (i : ℕ) → IsUtf8 (comment_text i)
comment_is_text i =
    either_text (eqb (i % 100) 0) (codes "<!--" ++ decimal i ++ codes "-->") [] (around_number (codes "<!--") (codes "-->") i (word_text (codes "<!--") refl) (word_text (codes "-->") refl)) IsUtf8-nil

paragraph_is_text : (x : ℕ) → IsUtf8 (paragraph_text x)
paragraph_is_text x =
    either_text (eqb ((x / 65536) % 2) 0) (codes "<para>w<em>" ++ decimal x ++ codes "</em></para>\n") (codes "<para>" ++ decimal x ++ codes "</para>\n")
    (around_number (codes "<para>w<em>") (codes "</em></para>\n") x (word_text (codes "<para>w<em>") refl) (word_text (codes "</em></para>\n") refl))
    (around_number (codes "<para>") (codes "</para>\n") x (word_text (codes "<para>") refl) (word_text (codes "</para>\n") refl))

pieces_are_text : (seed pieces : ℕ) → IsUtf8 (pieces_text seed pieces)
unfolding pieces_text
pieces_are_text seed zero = IsUtf8-nil
pieces_are_text seed (suc i) =
    let x = number_at seed (suc i) in
    IsUtf8-append (pieces_text seed i) (piece_text seed i) (pieces_are_text seed i)
    (IsUtf8-append (comment_text i) (paragraph_text x) (comment_is_text i) (paragraph_is_text x))

opening_is_text : (seed : ℕ) → IsUtf8 (opening_text seed)
unfolding opening_text
opening_is_text seed =
    around_number (codes "<doc id='g'><title>") (codes "</title>") seed (word_text (codes "<doc id='g'><title>") refl) (word_text (codes "</title>") refl)

large_is_text : (seed pieces : ℕ) → IsUtf8 (large_document seed pieces)
large_is_text seed pieces =
    IsUtf8-append (opening_text seed ++ pieces_text seed pieces) (codes "</doc>")
    (IsUtf8-append (opening_text seed) (pieces_text seed pieces) (opening_is_text seed) (pieces_are_text seed pieces)) (word_text (codes "</doc>") refl)

-- ---- commands on the text

module _ (edited_utf8 : EditedIsUtf8) where
  insert_fit : (at : ℕ) (added : List ℕ) (old new : EditorState) (answer : Reply) → IsUtf8 added → IsFit old → InsertStep at added old answer new → IsFit new
  insert_fit at added old new Silent text fit h =
      same_fit (edited_editor old at at added new.frontier) new h.1.editor
      (record { utf8 = edited_utf8 old.text added at at fit.utf8 text h.0 h.0; live = fit.live })
  insert_fit at added old new (Refused (BadPosition wrong len)) text fit h = same_fit old new h.3 fit
  insert_fit at added old new (Refused NoMemory) text fit h = same_fit old new h.1 fit
  insert_fit at added old new answer text fit h = absurd h

  delete_fit : (from to : ℕ) (old new : EditorState) (answer : Reply) → IsFit old → DeleteStep from to old answer new → IsFit new
  delete_fit from to old new Silent fit h =
      same_fit (edited_editor old from to [] new.frontier) new h.1.editor
      (record { utf8 = edited_utf8 old.text [] from to fit.utf8 IsUtf8-nil h.0.start h.0.end; live = fit.live })
  delete_fit from to old new (Refused (BadPosition wrong len)) fit h = same_fit old new h.2 fit
  delete_fit from to old new answer fit h = absurd h

  made_fit : (changes : List Change) (old new : EditorState) → AreChanges old.text changes → IsFit old → AreMade changes old new → IsFit new
  made_fit [] old new are fit h = same_fit old new h fit
  made_fit (change ∷ others) old new are fit (between, edit, rest) =
      let text : between.text ≡ edited old.text change.from change.to change.text = ap (λ (e : EditorState). e.text) edit.editor in
      let then_fit = same_fit (edited_editor old change.from change.to change.text between.frontier) between edit.editor
      (record { utf8 = edited_utf8 old.text change.text change.from change.to fit.utf8 are.1 are.0.start are.0.end; live = fit.live }) in
      made_fit others between new (subst (λ t. AreChanges t others) (sym text) (others_stay old.text change others fit.utf8 are)) then_fit rest

  tag_fit : (command : TagCommand) (old new : EditorState) (before behind : List ViewState) (answer : Reply) → IsFit old
      → TagStep command old before answer new behind → IsFit new
  tag_fit command old new before behind Silent fit (place, changes, answers, are, made, moved) = made_fit changes old new are fit made
  tag_fit command old new before behind Stay fit h = same_fit old new h.2 fit
  tag_fit command old new before behind (Refused (BadPosition wrong len)) fit h = same_fit old new h.3 fit
  tag_fit command old new before behind (Refused NoMemory) fit h = same_fit old new h.1 fit
  tag_fit command old new before behind answer fit h = absurd h

print_fit : (old new : EditorState) (answer : Reply) → IsFit old → PrintStep old answer new → IsFit new
print_fit old new (Printed text) fit h = same_fit old new h.1 fit
print_fit old new (Refused NoMemory) fit h = same_fit old new h fit
print_fit old new answer fit h = absurd h

nothing_fit : (old new : EditorState) (answer : Reply) → IsFit old → NothingStep old answer new → IsFit new
nothing_fit old new Silent fit h = same_fit old new h fit
nothing_fit old new answer fit h = absurd h

open_fit : (uri_text : List ℕ) (old new : EditorState) (before after : FilesState) (answer : Reply) → IsFit old → OpenStep uri_text old before answer new after
    → IsFit new
open_fit uri_text old new before after Silent fit h = subst IsFit (sym h.4) (record { utf8 = h.3; live = fit.live })
open_fit uri_text old new before after (Refused BadUri) fit h = same_fit old new h.1 fit
open_fit uri_text old new before after (Refused Failed) fit h = same_fit old new h.2 fit
open_fit uri_text old new before after (Refused (Absent uri)) fit h = same_fit old new h.1 fit
open_fit uri_text old new before after (Refused (NotUtf8 uri at)) fit h = same_fit old new h.4 fit
open_fit uri_text old new before after (Refused NoMemory) fit h = same_fit old new h.0 fit
open_fit uri_text old new before after answer fit h = absurd h

save_fit : (uri_text : List ℕ) (old new : EditorState) (before after : FilesState) (answer : Reply) → IsFit old → SaveStep uri_text old before answer new after
    → IsFit new
save_fit uri_text old new before after Silent fit h = same_fit old new h.2 fit
save_fit uri_text old new before after (Refused BadUri) fit h = same_fit old new h.1 fit
save_fit uri_text old new before after (Refused Failed) fit h = same_fit old new h.2 fit
save_fit uri_text old new before after (Refused NoMemory) fit (inl h) = same_fit old new h.0 fit
save_fit uri_text old new before after (Refused NoMemory) fit (inr h) = same_fit old new h.2 fit
save_fit uri_text old new before after answer fit h = absurd h

make_fit : (seed pieces : ℕ) (old new : EditorState) (answer : Reply) → IsFit old → MakeStep seed pieces old answer new → IsFit new
make_fit seed pieces old new Silent fit h = subst IsFit (sym h) (record { utf8 = large_is_text seed pieces; live = fit.live })
make_fit seed pieces old new (Refused NoMemory) fit h = same_fit old new h fit
make_fit seed pieces old new answer fit h = absurd h

-- ---- commands that read the text

read_fit : (old new : EditorState) (before now : ℕ) → IsFit old → ReadsOn old before new now → IsFit new
read_fit old new before now fit h = subst IsFit (sym h.editor) (record { utf8 = fit.utf8; live = fit.live })

errors_fit : (old new : EditorState) (before now : ℕ) (answer : Reply) → IsFit old → ErrorsStep old before answer new now → IsFit new
errors_fit old new before now (reply.Errors faults) fit h = read_fit old new before now fit h.3
errors_fit old new before now (Refused NoMemory) fit h = read_fit old new before now fit h
errors_fit old new before now answer fit h = absurd h

slice_fit : (count : ℕ) (old new : EditorState) (before now : ℕ) (answer : Reply) → IsFit old → SliceStep count old before answer new now → IsFit new
slice_fit count old new before now (Frontier at len) fit h = read_fit old new before now fit h.5
slice_fit count old new before now (Refused NoMemory) fit h = read_fit old new before now fit h.1
slice_fit count old new before now answer fit h = absurd h

stats_fit : (old new : EditorState) (answer : Reply) → IsFit old → StatsStep old answer new → IsFit new
stats_fit old new (Taken taken) fit h = same_fit old new h.1 fit
stats_fit old new answer fit h = absurd h

complete_fit : (at : ℕ) (old new : EditorState) (answer : Reply) → IsFit old → CompleteStep at old answer new → IsFit new
complete_fit at old new (Offered offers) fit h = same_fit old new h.2 fit
complete_fit at old new (Refused (BadPosition wrong len)) fit h = same_fit old new h.3 fit
complete_fit at old new (Refused NoMemory) fit h = same_fit old new h.1 fit
complete_fit at old new answer fit h = absurd h

-- ---- commands on the schema

held_fit : (uri : List ℕ) (old new : EditorState) (before after : FilesState) → IsFit old → HoldsFile uri old before new after → IsFit new
held_fit uri old new before after fit h = subst IsFit (sym h.2) (record { utf8 = fit.utf8; live = h.1.2.live })

schema_fit : (uri_text : List ℕ) (old new : EditorState) (before after : FilesState) (answer : Reply) → IsFit old
    → SchemaFileStep uri_text old before answer new after → IsFit new
schema_fit uri_text old new before after Silent fit h = held_fit h.0 old new before after fit h.2
schema_fit uri_text old new before after (Refused cause) fit h = same_fit old new h.0 fit
schema_fit uri_text old new before after answer fit h = absurd h

none_fit : (old new : EditorState) (answer : Reply) → IsFit old → HoldStep None old answer new → IsFit new
none_fit old new Silent fit h = subst IsFit (sym h) (record { utf8 = fit.utf8; live = tt })
none_fit old new (Refused NoMemory) fit h = same_fit old new h fit
none_fit old new answer fit h = absurd h

auto_fit : (old new : EditorState) (before after : FilesState) (answer : Reply) → IsFit old → SchemaAutoStep old before answer new after → IsFit new
auto_fit old new before after (Located (Some uri)) fit h = held_fit uri old new before after fit h.1
auto_fit old new before after (Located None) fit h = subst IsFit (sym h.1) (record { utf8 = fit.utf8; live = tt })
auto_fit old new before after (Refused cause) fit h = same_fit old new h.0 fit
auto_fit old new before after answer fit h = absurd h

-- ---- commands on the caret

at_fit : (old new : EditorState) (at : ℕ) → new ≡ record old { caret = at } → IsFit old → IsFit new
at_fit old new at e fit = subst IsFit (sym e) (record { utf8 = fit.utf8; live = fit.live })

goto_fit : (at : ℕ) (old new : EditorState) (answer : Reply) → IsFit old → GotoStep at old answer new → IsFit new
goto_fit at old new Silent fit h = at_fit old new at h.1 fit
goto_fit at old new (Refused (BadPosition wrong len)) fit h = same_fit old new h.3 fit
goto_fit at old new answer fit h = absurd h

next_fit : (old new : EditorState) (answer : Reply) → IsFit old → NextStep old answer new → IsFit new
next_fit old new (Caret at) fit h = at_fit old new at h.1 fit
next_fit old new Stay fit h = same_fit old new h.1 fit
next_fit old new answer fit h = absurd h

previous_fit : (old new : EditorState) (answer : Reply) → IsFit old → PreviousStep old answer new → IsFit new
previous_fit old new (Caret at) fit h = at_fit old new at h.1 fit
previous_fit old new Stay fit h = same_fit old new h.1 fit
previous_fit old new answer fit h = absurd h

position_fit : (old new : EditorState) (answer : Reply) → IsFit old → PositionStep old answer new → IsFit new
position_fit old new (reply.Position line column) fit h = same_fit old new h.2 fit
position_fit old new answer fit h = absurd h

move_fit : (way : Way) (old new : EditorState) (answer : Reply) → IsFit old → MoveStep way old answer new → IsFit new
move_fit way old new (Caret at) fit h = at_fit old new at h.1 fit
move_fit way old new Stay fit h = same_fit old new h.1 fit
move_fit way old new (Refused NoMemory) fit h = same_fit old new h fit
move_fit way old new answer fit h = absurd h

-- ---- each command

pub step_fit : EditedIsUtf8 → (old new : World) (given : Command) (answer : Reply) → ((at : ℕ) (added : List ℕ) → given ≡ Insert at added → IsUtf8 added)
    → IsFit old.editor → Step old given answer new → IsFit new.editor
step_fit edited_utf8 old new Nothing answer texts fit h = nothing_fit old.editor new.editor answer fit h.0
step_fit edited_utf8 old new (OpenFile uri) answer texts fit h = open_fit uri old.editor new.editor old.files new.files answer fit h.0
step_fit edited_utf8 old new (Save uri) answer texts fit h = save_fit uri old.editor new.editor old.files new.files answer fit h.0
step_fit edited_utf8 old new (Insert at added) answer texts fit h = insert_fit edited_utf8 at added old.editor new.editor answer (texts at added refl) fit h.0
step_fit edited_utf8 old new (Delete from to) answer texts fit h = delete_fit edited_utf8 from to old.editor new.editor answer fit h.0
step_fit edited_utf8 old new Print answer texts fit h = print_fit old.editor new.editor answer fit h.0
step_fit edited_utf8 old new Errors answer texts fit h = errors_fit old.editor new.editor old.steps new.steps answer fit h.0
step_fit edited_utf8 old new (Slice count) answer texts fit h = slice_fit count old.editor new.editor old.steps new.steps answer fit h.0
step_fit edited_utf8 old new Stats answer texts fit h = stats_fit old.editor new.editor answer fit h.0
step_fit edited_utf8 old new (SchemaFile uri) answer texts fit h = schema_fit uri old.editor new.editor old.files new.files answer fit h.0
step_fit edited_utf8 old new SchemaNone answer texts fit h = none_fit old.editor new.editor answer fit h.0
step_fit edited_utf8 old new SchemaAuto answer texts fit h = auto_fit old.editor new.editor old.files new.files answer fit h.0
step_fit edited_utf8 old new (Complete at) answer texts fit h = complete_fit at old.editor new.editor answer fit h.0
step_fit edited_utf8 old new (Goto at) answer texts fit h = goto_fit at old.editor new.editor answer fit h.0
step_fit edited_utf8 old new (Move way) answer texts fit h = move_fit way old.editor new.editor answer fit h.0
step_fit edited_utf8 old new Next answer texts fit h = next_fit old.editor new.editor answer fit h.0
step_fit edited_utf8 old new Previous answer texts fit h = previous_fit old.editor new.editor answer fit h.0
step_fit edited_utf8 old new Position answer texts fit h = position_fit old.editor new.editor answer fit h.0
step_fit edited_utf8 old new (View index) answer texts fit h = same_fit old.editor new.editor h.1 fit
step_fit edited_utf8 old new (Close index) answer texts fit h = same_fit old.editor new.editor h.1 fit
step_fit edited_utf8 old new (Make seed pieces) answer texts fit h = make_fit seed pieces old.editor new.editor answer fit h.0
step_fit edited_utf8 old new (Finish at) answer texts fit h = tag_fit edited_utf8 (tags.Finish at) old.editor new.editor old.views new.views answer fit h.0
step_fit edited_utf8 old new (Split at) answer texts fit h = tag_fit edited_utf8 (tags.Split at) old.editor new.editor old.views new.views answer fit h.0
step_fit edited_utf8 old new (Pair at name) answer texts fit h = tag_fit edited_utf8 (tags.Pair at name) old.editor new.editor old.views new.views answer fit h.0
step_fit edited_utf8 old new (Rename at name) answer texts fit h = tag_fit edited_utf8 (tags.Rename at name) old.editor new.editor old.views new.views answer fit h.0
