-- What reading finds at the front of tokens: the steps and loops that all parts share. The program's own functions; no public
-- contract rests on them.
use Rattle.std.specs.Prelude.{◌≡◌, ℕ, zero, suc, Bool, false, ◌==◌, if◌then◌else◌, List, [], ◌∷◌, length, Option, Some, None, Result, Ok}
use Rattle.std.specs.Prelude.{Err}
use Rattle.rnc_lex.specs.declared.token.Lexeme.{Lexeme}
use Rattle.rnc_lex.specs.declared.token.Lexeme.TheVariants.{Symbol as mark}
use Rattle.rnc_lex.specs.declared.token.Symbol.{Symbol}
use Rattle.rnc_lex.specs.declared.token.Symbol.TheVariants.{LeftBrace, RightBrace, LeftParenthesis, RightParenthesis, LeftBracket}
use Rattle.rnc_lex.specs.declared.token.Symbol.TheVariants.{RightBracket, Equals, BarEquals, AmpersandEquals, Comma, Bar, Ampersand}
use Rattle.rnc_lex.specs.declared.token.Symbol.TheVariants.{QuestionMark, Star, Plus, Minus, Tilde, Follows}
use Rattle.rnc_parse.specs.declared.stop.Stop.{Stop}
use Rattle.rnc_parse.specs.declared.stop.Stop.TheVariants as stop
use Rattle.rnc_parse.specs.Scopes.{Use, of_names, of_types}

-- a value and the tokens behind it, or that there is none, or that a prefix stands for nothing
pub data Reading (A : Type 0) : Type 0 where
  read : A → List Lexeme → Reading A
  no_reading : Reading A
  no_prefix : Use → Reading A

-- the next step, from what the one before found
infixl 10 ◌>>=◌
abbrev pub ◌>>=◌ : {A B : Type 0} → Reading A → (A → List Lexeme → Reading B) → Reading B
read value rest >>= more = more value rest
no_reading >>= more = no_reading
no_prefix used >>= more = no_prefix used

-- a call answers what reading finds, seen by view, and leaves what is behind it, unless memory runs out
abbrev pub Finds : {A B : Type 0} → (A → B) → List Lexeme → Result A Stop → Reading B → Type 0
Finds view left (Ok value) found = found ≡ read (view value) left
Finds view left (Err stop.Syntax) found = found ≡ no_reading
Finds view left (Err (stop.NamePrefix prefix)) found = found ≡ no_prefix (of_names prefix)
Finds view left (Err (stop.TypePrefix prefix)) found = found ≡ no_prefix (of_types prefix)
Finds view left (Err stop.NoMemory) found = Unit {0}

-- the first token, the second, and those behind the first
unfoldable pub first : List Lexeme → Option Lexeme
first [] = None
first (token ∷ tokens) = Some token

unfoldable pub behind : List Lexeme → List Lexeme
behind [] = []
behind (token ∷ tokens) = tokens

-- the number of a symbol, by which two are told apart
abbrev pub symbol_number : Symbol → ℕ
symbol_number LeftBrace = 0
symbol_number RightBrace = 1
symbol_number LeftParenthesis = 2
symbol_number RightParenthesis = 3
symbol_number LeftBracket = 4
symbol_number RightBracket = 5
symbol_number Equals = 6
symbol_number BarEquals = 7
symbol_number AmpersandEquals = 8
symbol_number Comma = 9
symbol_number Bar = 10
symbol_number Ampersand = 11
symbol_number QuestionMark = 12
symbol_number Star = 13
symbol_number Plus = 14
symbol_number Minus = 15
symbol_number Tilde = 16
symbol_number Follows = 17

abbrev pub same_symbol : Symbol → Symbol → Bool
same_symbol a b = symbol_number a == symbol_number b

-- whether the token is there and is the symbol
abbrev pub is_symbol : Symbol → Option Lexeme → Bool
is_symbol symbol (Some (mark other)) = same_symbol symbol other
is_symbol symbol _ = false

-- whether the symbol is the first token
abbrev pub stands : Symbol → List Lexeme → Bool
stands symbol tokens = is_symbol symbol (first tokens)

-- what is behind the symbol
unfoldable pub behind_symbol : Symbol → List Lexeme → Reading (Unit {0})
behind_symbol symbol tokens = if stands symbol tokens then read tt (behind tokens) else no_reading

-- a step, as long as the tokens go on; what the steps find is added to what is there
unfoldable pub loop_within : {A B : Type 0} →
    (List Lexeme → Bool) → (List Lexeme → Reading A) → (B → A → B) → ℕ → B → List Lexeme → Reading B
loop_within goes_on step add zero before tokens = no_reading
loop_within goes_on step add (suc most) before tokens =
    if goes_on tokens then (step tokens >>= λ value rest. loop_within goes_on step add most (add before value) rest)
    else read before tokens

-- the same with no such bound, where each step takes a token
unfoldable pub loop_at : {A B : Type 0} → (List Lexeme → Bool) → (List Lexeme → Reading A) → (B → A → B) → B → List Lexeme → Reading B
loop_at goes_on step add before tokens = loop_within goes_on step add (suc (length tokens)) before tokens

-- what a look-up gives, or that the prefix stands for nothing
unfoldable pub looked_up : {A : Type 0} → Option A → Use → List Lexeme → Reading A
looked_up (Some value) used rest = read value rest
looked_up None used rest = no_prefix used
