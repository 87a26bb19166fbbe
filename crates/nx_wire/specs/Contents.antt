-- What the content of a message says: JSON, in UTF-8.
use Rattle.std.specs.Prelude.{◌≡◌, ℕ, List, Option, Some, None}
use Rattle.std.specs.Str.{IsUtf8}
use Rattle.serde_json.specs.Data.{Data}
use Rattle.serde_json.specs.Read.{read}

-- the value that bytes write; none where they are no text, or no JSON
abbrev pub Reads : List ℕ → Option Data → Type 0
Reads body (Some value) = IsUtf8 body × (read body ≡ Some value)
Reads body None = IsUtf8 body → read body ≡ None
