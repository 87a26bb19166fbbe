-- Commands on the text alone.
use Rattle.std.specs.Prelude.{◌≡◌, ℕ, List, [], length}
use Rattle.nx_base.specs.Text.{IsPlace}
use Rattle.nx_marks.specs.Frontier.{IsBorder, FrontierAfterEdit}
use Rattle.nx_text.specs.Editing.{IsRange, Blames}
use Rattle.nx_script.specs.declared.reply.Reply.{Reply}
use Rattle.nx_script.specs.declared.reply.Reply.TheVariants.{Silent, Printed, Refused}
use Rattle.nx_script.specs.declared.reply.Refusal.TheVariants.{BadPosition, NoMemory}
use Rattle.nx_session.specs.Editor.{EditorState, edited_editor}

-- the bytes from `from` to `to` are replaced by the added ones; what was read in front of them stays read, or less of it,
-- up to a border of the new text's tokens
pub record IsEdited (from to : ℕ) (added : List ℕ) (old new : EditorState) : Type 0 where
  pub editor : new ≡ edited_editor old from to added new.frontier
  pub frontier : FrontierAfterEdit from old.frontier new.frontier
  pub border : IsBorder new.text new.frontier

-- text is put in at a place
abbrev pub InsertStep : ℕ → List ℕ → EditorState → Reply → EditorState → Type 0
InsertStep at added old Silent new = IsPlace old.text at × IsEdited at at added old new
InsertStep at added old (Refused (BadPosition wrong len)) new =
    ¬ (IsPlace old.text at) × (wrong ≡ at) × (len ≡ length old.text) × (new ≡ old)
InsertStep at added old (Refused NoMemory) new = IsPlace old.text at × (new ≡ old)
InsertStep at added old reply new = ⊥

-- the text between two places is taken away; this takes no memory
abbrev pub DeleteStep : ℕ → ℕ → EditorState → Reply → EditorState → Type 0
DeleteStep from to old Silent new =
    IsRange old.text from to × IsEdited from to [] old new
DeleteStep from to old (Refused (BadPosition wrong len)) new =
    Blames old.text from to wrong × (len ≡ length old.text) × (new ≡ old)
DeleteStep from to old reply new = ⊥

-- the text is the reply
abbrev pub PrintStep : EditorState → Reply → EditorState → Type 0
PrintStep old (Printed text) new = (text ≡ old.text) × (new ≡ old)
PrintStep old (Refused NoMemory) new = new ≡ old
PrintStep old reply new = ⊥
