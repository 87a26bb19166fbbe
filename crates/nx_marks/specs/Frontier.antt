-- How far a text is read: a border of its tokens, or 0.
use Rattle.std.specs.Prelude.{◌≡◌, ◌⊎◌, ℕ, ◌<◌, ◌≤◌, List, length}
use Rattle.nx_base.specs.Rules.{Lexeme}
use Rattle.nx_base.specs.Running.{CutsTo}

-- the place is a border of the text's tokens: 0, or the end of one of them
pub record IsBorder (text : List ℕ) (at : ℕ) : Type 0 where
  pub tokens : List Lexeme
  pub cuts : CutsTo text 0 tokens at

-- an edit leaves the frontier where it lies before the edit's first place, and otherwise takes it back before that place, or to 0
pub record FrontierAfterEdit (from old new : ℕ) : Type 0 where
  pub before : old < from → new ≡ old
  pub back : from ≤ old → (new < from) ⊎ (new ≡ 0)

-- at least so many tokens of the text lie between two places
pub record MovesOver (text : List ℕ) (from count to : ℕ) : Type 0 where
  pub tokens : List Lexeme
  pub cuts : CutsTo text from tokens to
  pub counted : count ≤ length tokens
