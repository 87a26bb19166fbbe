-- What the words behind the program's name say, as their form has it: `[--schema URI] [--rules URI] SCRIPT`, in any order, or `--` in
-- front of the script, which is then the last word. That they are UTF-8 is asked beside it (`Asks`).
use Rattle.std.specs.Prelude.{◌≡◌, ◌↔◌, ℕ, true, List, [], ◌∷◌, ◌++◌, codes, Option, Some, None}
use Rattle.nx_words.specs.Form.{is_value}
use Rattle.nx_words.specs.Words.{CommandLine, command_line}

-- These words say this script, and these values of the options; None for what isn't said. Each form but the first and `--` is a piece in
-- front of words that don't say the same once more.
pub data WordsSay : List (List ℕ) → Option (List ℕ) → Option (List ℕ) → Option (List ℕ) → Type 0 where
  nothing : WordsSay [] None None None
  -- a word that is no option
  plain : {word : List ℕ} {words : List (List ℕ)} {schema rules : Option (List ℕ)} → is_value word ≡ true →
      WordsSay words None schema rules → WordsSay (word ∷ words) (Some word) schema rules
  -- any word but the empty one, as the last
  behind_dashes : {word : List ℕ} → (word ≡ [] → ⊥) → WordsSay (codes "--" ∷ word ∷ []) (Some word) None None
  -- an option, its value as the next word or behind `=`
  schema : {value : List ℕ} {words : List (List ℕ)} {script rules : Option (List ℕ)} → is_value value ≡ true →
      WordsSay words script None rules → WordsSay (codes "--schema" ∷ value ∷ words) script (Some value) rules
  joined_schema : {value : List ℕ} {words : List (List ℕ)} {script rules : Option (List ℕ)} → is_value value ≡ true →
      WordsSay words script None rules → WordsSay ((codes "--schema=" ++ value) ∷ words) script (Some value) rules
  rules : {value : List ℕ} {words : List (List ℕ)} {script schema : Option (List ℕ)} → is_value value ≡ true →
      WordsSay words script schema None → WordsSay (codes "--rules" ∷ value ∷ words) script schema (Some value)
  joined_rules : {value : List ℕ} {words : List (List ℕ)} {script schema : Option (List ℕ)} → is_value value ≡ true →
      WordsSay words script schema None → WordsSay ((codes "--rules=" ++ value) ∷ words) script schema (Some value)

-- words are read as what they say, and other words as nothing
abbrev pub WordsAreRead : Type 0
WordsAreRead = (words : List (List ℕ)) (line : CommandLine) →
    command_line words ≡ Some line ↔ WordsSay words (Some line.script) line.schema line.rules
