-- Forms of words and digits, from which the grammars of declarations and references are put together.
use Rattle.std.specs.Prelude.{ℕ, List, [], ◌∷◌, codes}
use Rattle.std.specs.Char.{to_ascii_lowercase, to_ascii_uppercase}
use Rattle.nx_base.specs.Form.{Form, only, never, nothing, one, seq, alt, many}

-- these characters, one behind another
unfoldable pub word : List ℕ → Form
word [] = nothing
word (c ∷ cs) = seq (one (only c)) (word cs)

-- one of these characters
unfoldable pub one_of : List ℕ → Form
one_of [] = never
one_of (c ∷ cs) = alt (one (only c)) (one_of cs)

-- these characters, each letter of ASCII in either case
unfoldable pub in_any_case : List ℕ → Form
in_any_case [] = nothing
in_any_case (c ∷ cs) = seq (one_of (to_ascii_lowercase c ∷ to_ascii_uppercase c ∷ [])) (in_any_case cs)

-- the form or nothing, and the form once or more
abbrev pub optional : Form → Form
optional form = alt form nothing

abbrev pub some : Form → Form
some form = seq form (many form)

-- [0-9], and [0-9a-fA-F]
abbrev pub digit : Form
digit = one_of (codes "0123456789")

abbrev pub hexdigit : Form
hexdigit = one_of (codes "0123456789abcdefABCDEF")
