-- An editor whose text is read on, or that holds its document against another schema.
use Rattle.std.proofs.Common.{◌≡◌, ℕ, ◌+◌, ◌≤◌, List, Option, ap, ◌∙◌}
use Rattle.nx_marks.specs.Frontier.{IsBorder}
use Rattle.nx_session.specs.Editor.{EditorState, with_schema}
use Rattle.nx_session.specs.Validating.{ReadsOn}
use Rattle.rng_core.specs.declared.grammar.Grammar.{Grammar}

-- an editor with these parts; its text, caret and document are as before
abbrev pub holding : EditorState → Option Grammar → ℕ → ℕ → EditorState
holding old schema frontier taken = record old { schema = schema; frontier = frontier; taken = taken }

-- it is the one of which nothing is read
pub begun_anew : (old : EditorState) (schema left : Option Grammar) (frontier taken : ℕ) → schema ≡ left → frontier ≡ 0 → taken ≡ 0
    → holding old schema frontier taken ≡ with_schema old left
begun_anew old schema left frontier taken is at none =
    ap (λ s. holding old s frontier taken) is ∙ ap (λ n. holding old left n taken) at ∙ ap (λ n. holding old left 0 n) none

-- it is the one that is read on, where the schema is as before
pub reads_on : (old : EditorState) (before now : ℕ) (schema : Option Grammar) (frontier taken : ℕ)
    → IsBorder old.text frontier → schema ≡ old.schema → old.frontier ≤ frontier → now ≡ before + taken
    → ReadsOn old before (holding old schema frontier taken) now
reads_on old before now schema frontier taken border is further counted = record {
  editor = ap (λ s. holding old s frontier taken) is;
  further = further;
  border = border;
  counted = counted;
}
