-- A machine's run over the tokens of a text. The tokens have no place, so they are the same behind an edit.
use Rattle.std.specs.Prelude.{◌≡◌, ℕ, ◌+◌, ◌-◌, ◌<◌, List, [], ◌∷◌, ◌++◌, length, map}
use Rattle.nx_base.specs.Rules.{Rules, Lexeme, lexeme_of}
use Rattle.nx_base.specs.Shifting.{placed}
use Rattle.nx_base.specs.Text.{IsPlace}
use Rattle.nx_base.specs.Tokens.{cut, tokens_of}
use Rattle.nx_base.specs.declared.fault.Fault.{Fault}

-- these tokens are cut from one place of the text up to another
abbrev pub CutsTo : List ℕ → ℕ → List Lexeme → ℕ → Type 0
CutsTo text from [] to = from ≡ to
CutsTo text from (lexeme ∷ others) to =
    IsPlace text from × ((from < length text) × ((lexeme ≡ lexeme_of (cut text from)) × CutsTo text (from + length lexeme.bytes) others to))

-- what the state behind these tokens means
abbrev pub after_all : {M : Type 0} → Rules M → M → List Lexeme → M
after_all rules m [] = m
after_all rules m (lexeme ∷ others) = after_all rules (rules.after m lexeme) others

-- the faults of these tokens, the first at a place
abbrev pub faults_along : {M : Type 0} → Rules M → ℕ → M → List Lexeme → List Fault
faults_along rules from m [] = []
faults_along rules from m (lexeme ∷ others) =
    placed (from - rules.back m) (rules.gives m lexeme)
    ++ faults_along rules (from + length lexeme.bytes) (rules.after m lexeme) others

-- the faults that a machine finds in a whole text
abbrev pub machine_faults : {M : Type 0} → Rules M → List ℕ → List Fault
machine_faults rules text =
    let all = map lexeme_of (tokens_of text) in
    let last = after_all rules rules.first all in
    faults_along rules 0 rules.first all ++ placed (length text - rules.back last) (rules.ends last)
