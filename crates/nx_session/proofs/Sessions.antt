-- A session as an editor.
use Rattle.std.proofs.Common.{ℕ, List, Option}
use Rattle.nx_session.specs.Editor.{EditorState}
use Rattle.nx_session.specs.Reading.{grammar_of}
use Rattle.deriv_pool.specs.declared.pool.Pool.{Pool}

-- the editor of these parts
abbrev pub seen : List ℕ → ℕ → List ℕ → Option Pool → Option (List ℕ) → ℕ → ℕ → EditorState
seen text caret document matcher locating frontier taken = record {
  text = text;
  caret = caret;
  document = document;
  schema = grammar_of matcher;
  locating = locating;
  frontier = frontier;
  taken = taken;
}
