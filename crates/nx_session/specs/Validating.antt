-- Commands that read the text for its faults.
use Rattle.std.specs.Prelude.{◌≡◌, ℕ, ◌⊎◌, ◌+◌, ◌≤◌, length}
use Rattle.nx_marks.specs.Frontier.{IsBorder, MovesOver}
use Rattle.nx_script.specs.declared.reply.Reply.{Reply}
use Rattle.nx_script.specs.declared.reply.Reply.TheVariants.{Errors, Frontier, Taken, Refused}
use Rattle.nx_script.specs.declared.reply.Refusal.TheVariants.{NoMemory}
use Rattle.nx_session.specs.Editor.{EditorState, read_editor, schema_of}
use Rattle.nx_recover.specs.Faults.{AreFaultsOf}

-- the text is read on, by as many tokens as were cut in this command, up to a border of its tokens; nothing else changes
pub record ReadsOn (old : EditorState) (before : ℕ) (new : EditorState) (now : ℕ) : Type 0 where
  pub editor : new ≡ read_editor old new.frontier new.taken
  pub further : old.frontier ≤ new.frontier
  pub border : IsBorder old.text new.frontier
  pub counted : now ≡ before + new.taken

-- over at least so many tokens
abbrev pub TakesTokens : EditorState → EditorState → Type 0
TakesTokens old new = MovesOver old.text old.frontier new.taken new.frontier

-- the faults of the whole text against the schema are the reply, whatever came before; the text is read to its end
abbrev pub ErrorsStep : EditorState → ℕ → Reply → EditorState → ℕ → Type 0
ErrorsStep old before (Errors faults) new now =
    AreFaultsOf (schema_of old) old.text faults × (new.frontier ≡ length old.text) × TakesTokens old new × ReadsOn old before new now
ErrorsStep old before (Refused NoMemory) new now = ReadsOn old before new now
ErrorsStep old before reply new now = ⊥

-- so many tokens are taken, or all that are left; the reply is how far the text is read then
abbrev pub SliceStep : ℕ → EditorState → ℕ → Reply → EditorState → ℕ → Type 0
SliceStep count old before (Frontier at len) new now =
    (at ≡ new.frontier) × (len ≡ length old.text) × ((new.taken ≡ count) ⊎ (new.frontier ≡ length old.text))
    × (new.taken ≤ count) × TakesTokens old new × ReadsOn old before new now
SliceStep count old before (Refused NoMemory) new now = (new.taken ≤ count) × ReadsOn old before new now
SliceStep count old before reply new now = ⊥

-- how many tokens the last such command took is the reply; this takes no memory
abbrev pub StatsStep : EditorState → Reply → EditorState → Type 0
StatsStep old (Taken taken) new = (taken ≡ old.taken) × (new ≡ old)
StatsStep old reply new = ⊥
