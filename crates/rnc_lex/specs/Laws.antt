-- Laws of tokens.
use Rattle.std.specs.Prelude.{◌≡◌, ◌≢◌, ℕ, ◌+◌, ◌<◌, ◌≤◌, List, [], ◌∷◌, Result, Err}
use Rattle.std.specs.List.{AllByRecursion}
use Rattle.std.specs.Str.{IsUtf8}
use Rattle.rnc_lex.specs.declared.fault.LexFault.{LexFault}
use Rattle.rnc_lex.specs.declared.fault.LexFault.TheVariants.{NoMemory}
use Rattle.rnc_lex.specs.declared.token.Lexeme.{Lexeme}
use Rattle.rnc_lex.specs.declared.token.Lexeme.TheVariants.{Identifier, Keyword, PrefixedName, NamespaceWildcard, Literal, Symbol}
use Rattle.rnc_lex.specs.declared.token.RncToken.{RncToken}
use Rattle.rnc_lex.specs.Tokens.{Lexes}

-- an answer other than want of memory
abbrev pub Tells : Result (List RncToken) LexFault → Type 0
Tells answer = answer ≢ Err NoMemory

-- a text has one answer: one list of tokens and no fault, or one fault at one place
abbrev pub TextsHaveOneAnswer : Type 0
TextsHaveOneAnswer = (text : List ℕ) (one other : Result (List RncToken) LexFault) →
    Tells one → Tells other → Lexes text one → Lexes text other → one ≡ other

-- and it has an answer
abbrev pub TextsHaveAnAnswer : Type 0
TextsHaveAnAnswer = (text : List ℕ) → (answer : Result (List RncToken) LexFault) × Tells answer × Lexes text answer

-- the texts of a token are UTF-8
abbrev pub HasUtf8Texts : Lexeme → Type 0
HasUtf8Texts (Identifier name) = IsUtf8 name
HasUtf8Texts (Keyword word) = Unit {0}
HasUtf8Texts (PrefixedName name local) = IsUtf8 name × IsUtf8 local
HasUtf8Texts (NamespaceWildcard name) = IsUtf8 name
HasUtf8Texts (Literal text) = IsUtf8 text
HasUtf8Texts (Symbol mark) = Unit {0}

abbrev pub HaveUtf8Texts : List RncToken → Type 0
HaveUtf8Texts tokens = AllByRecursion (λ (token : RncToken). HasUtf8Texts token.lexeme) tokens

-- the tokens begin at this place or behind it, each behind the one before, and in front of the end
abbrev pub RiseFrom : ℕ → ℕ → List RncToken → Type 0
RiseFrom len at [] = Unit {0}
RiseFrom len at (token ∷ tokens) = (at ≤ token.at) × (token.at < len) × RiseFrom len (token.at + 1) tokens

-- each token begins behind the one before, inside of a text of this length
abbrev pub Rise : ℕ → List RncToken → Type 0
Rise len tokens = RiseFrom len 0 tokens
