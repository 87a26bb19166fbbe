-- Where bytes stop being UTF-8 text (RFC 3629).
use Rattle.std.specs.Prelude.{ℕ, ◌<◌, ◌≤◌, List, ◌++◌, length, take}
use Rattle.std.specs.Str.{IsUtf8}

-- the bytes are the front of some text: others can follow with which they are a text
abbrev pub IsTextFront : List ℕ → Type 0
IsTextFront bytes = (rest : List ℕ) × IsUtf8 (bytes ++ rest)

-- the first `at` bytes are the front of some text, and no more of them are
pub record StopsBeingText (bytes : List ℕ) (at : ℕ) : Type 0 where
  pub within : at ≤ length bytes
  pub front : IsTextFront (take at bytes)
  pub longest : (more : ℕ) → at < more → more ≤ length bytes → ¬ IsTextFront (take more bytes)
