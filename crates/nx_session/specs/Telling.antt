-- Changes of the text, told to what stands beside it.
use Rattle.std.specs.Prelude.{◌≡◌, ℕ, ◌<◌, ◌^◌, List, [], ◌∷◌, length}
use Rattle.nx_base.specs.Rules.{Rules}
use Rattle.nx_base.specs.Text.{edited}
use Rattle.nx_base.specs.declared.change.Change.{Change}
use Rattle.nx_marks.specs.Chain.{Kept, frontier_of}
use Rattle.nx_marks.specs.Editing.{edit_kept}
use Rattle.nx_marks.specs.Frontier.{FrontierAfterEdit}
use Rattle.nx_marks.specs.Right.{IsRight}
use Rattle.nx_session.specs.Editor.{caret_after}
use Rattle.nx_session.specs.Tagging.{edit_by}
use Rattle.nx_text.specs.Changing.{changed}

-- where a caret goes with changes that are made one after another
abbrev pub caret_behind : List Change → ℕ → ℕ
caret_behind [] caret = caret
caret_behind (change ∷ others) caret = caret_behind others (caret_after (edit_by change) caret)

-- a text, and what each of the changes leaves of it, fits into memory
abbrev pub Fit : List ℕ → List Change → Type 0
Fit text [] = length text < 2 ^ 64
Fit text (change ∷ others) = (length text < 2 ^ 64) × Fit (edited text change.from change.to change.text) others

-- if the text behind all of them fits, so do those between
abbrev pub FitsThen : List ℕ → List Change → Type 0
FitsThen text changes = length (changed text changes) < 2 ^ 64 → Fit text changes

-- what is kept is right for the text, and each change does to it what an edit does; so it is right for the text behind each
abbrev pub AreTold : {S M : Type 0} → (S → Type 0) → (S → M) → Rules M → List ℕ → List Change → Kept S → Kept S → Type 0
AreTold is_state means rules text [] old new = IsRight is_state means rules text old × (new ≡ old)
AreTold is_state means rules text (change ∷ others) old new =
    IsRight is_state means rules text old
    × FrontierAfterEdit change.from (frontier_of old) (frontier_of (edit_kept change.from change.to (length change.text) old))
    × AreTold is_state means rules (edited text change.from change.to change.text) others (edit_kept change.from change.to (length change.text) old) new
