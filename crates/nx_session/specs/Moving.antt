-- Commands on the caret alone. They take no memory, but for `move`.
use Rattle.std.specs.Prelude.{◌≡◌, ℕ, length}
use Rattle.nx_base.specs.declared.way.Way.{Way}
use Rattle.nx_move.specs.Tags.{tags_of}
use Rattle.nx_move.specs.Ways.{LeadsTo}
use Rattle.nx_base.specs.Text.{IsPlace}
use Rattle.nx_text.specs.Borders.{IsNextBorder, IsPreviousBorder}
use Rattle.nx_text.specs.Places.{line_at, column_at}
use Rattle.nx_script.specs.declared.reply.Reply.{Reply}
use Rattle.nx_script.specs.declared.reply.Reply.TheVariants.{Silent, Caret, Stay, Position, Refused}
use Rattle.nx_script.specs.declared.reply.Refusal.TheVariants.{BadPosition, NoMemory}
use Rattle.nx_session.specs.Editor.{EditorState, at_caret}

-- the caret goes to a place
abbrev pub GotoStep : ℕ → EditorState → Reply → EditorState → Type 0
GotoStep at old Silent new = IsPlace old.text at × (new ≡ at_caret old at)
GotoStep at old (Refused (BadPosition wrong len)) new =
    ¬ (IsPlace old.text at) × (wrong ≡ at) × (len ≡ length old.text) × (new ≡ old)
GotoStep at old reply new = ⊥

-- the caret goes to the next border of grapheme clusters; it stays at the end, where there is none
abbrev pub NextStep : EditorState → Reply → EditorState → Type 0
NextStep old (Caret at) new = IsNextBorder old.text old.caret at × (new ≡ at_caret old at)
NextStep old Stay new = (old.caret ≡ length old.text) × (new ≡ old)
NextStep old reply new = ⊥

-- the caret goes to the border before it; it stays at the start
abbrev pub PreviousStep : EditorState → Reply → EditorState → Type 0
PreviousStep old (Caret at) new = IsPreviousBorder old.text old.caret at × (new ≡ at_caret old at)
PreviousStep old Stay new = (old.caret ≡ 0) × (new ≡ old)
PreviousStep old reply new = ⊥

-- the caret's line and column are the reply
abbrev pub PositionStep : EditorState → Reply → EditorState → Type 0
PositionStep old (Position line column) new =
    (line ≡ line_at old.text old.caret) × (column ≡ column_at old.text old.caret) × (new ≡ old)
PositionStep old reply new = ⊥

-- the caret goes where the way leads from it along the tags of the text; it stays where the way leads nowhere. How many tokens are cut
-- for that isn't said
abbrev pub MoveStep : Way → EditorState → Reply → EditorState → Type 0
MoveStep way old (Caret at) new = LeadsTo way (tags_of old.text) old.caret at × (new ≡ at_caret old at)
MoveStep way old Stay new = ((place : ℕ) → ¬ LeadsTo way (tags_of old.text) old.caret place) × (new ≡ old)
MoveStep way old (Refused NoMemory) new = new ≡ old
MoveStep way old reply new = ⊥
