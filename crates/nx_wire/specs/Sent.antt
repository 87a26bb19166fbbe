-- Messages as they are sent.
use Rattle.std.specs.Prelude.{◌≡◌, ◌≤◌, ℕ, List, [], ◌∷◌, ◌++◌, false, Some}
use Rattle.serde_json.specs.Data.{Data, depth}
use Rattle.serde_json.specs.Read.{max_depth, read}
use Rattle.serde_json.specs.Written.{compact_text, has_float}
use Rattle.nx_wire.specs.Frames.{frame}

-- a text that writes a value: where it has no float, the one without spaces; and it reads back
pub record IsTextOf (text : List ℕ) (value : Data) : Type 0 where
  pub compact : has_float value ≡ false → text ≡ compact_text value
  pub reads : depth value ≤ max_depth → read text ≡ Some value

-- one message that says a value is added
abbrev pub Sends : List ℕ → Data → List ℕ → Type 0
Sends old value new = (text : List ℕ) × IsTextOf text value × (new ≡ old ++ frame text)

-- several are, in order
abbrev pub SendsAll : List ℕ → List Data → List ℕ → Type 0
SendsAll old [] new = new ≡ old
SendsAll old (value ∷ rest) new = (between : List ℕ) × Sends old value between × SendsAll between rest new
