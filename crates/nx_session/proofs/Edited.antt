-- The editor behind an edit.
use Rattle.std.proofs.Common.{◌≡◌, ℕ, List, length, ap, ◌∙◌}
use Rattle.nx_base.specs.Text.{edited}
use Rattle.nx_base.specs.declared.edit.Edit.{Edit}
use Rattle.nx_session.specs.Editor.{EditorState, caret_after, edited_editor}

-- an editor with these parts; its document is as before
abbrev pub shown : EditorState → List ℕ → ℕ → ℕ → ℕ → EditorState
shown old text caret frontier taken =
    record old { text = text; caret = caret; frontier = frontier; taken = taken }

-- it is the edited one where its text and its caret are
pub shown_is_edited : (old : EditorState) (from to : ℕ) (added text : List ℕ) (caret frontier taken len : ℕ) → text ≡ edited old.text from to added →
    caret ≡ caret_after (record { from = from; to = to; added = len }) old.caret → len ≡ length added → taken ≡ old.taken →
    shown old text caret frontier taken ≡ edited_editor old from to added frontier
shown_is_edited old from to added text caret frontier taken len is_text is_caret is_len same =
    let new = edited old.text from to added in
    let moved : ℕ → Edit = λ n. record { from = from; to = to; added = n } in
    ap (λ t. shown old t caret frontier taken) is_text
    ∙ ap (λ c. shown old new c frontier taken) is_caret
    ∙ ap (λ n. shown old new (caret_after (moved n) old.caret) frontier taken) is_len
    ∙ ap (λ n. shown old new (caret_after (moved (length added)) old.caret) frontier n) same
