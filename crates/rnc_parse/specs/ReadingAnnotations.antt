-- What reading finds of annotations. The program's own functions; no public contract rests on them.
use Rattle.std.specs.Prelude.{◌≡◌, Bool, true, false, if◌then◌else◌, List, [], ◌∷◌, Option, Some, None, Result, Ok, Err}
use Rattle.rnc_lex.specs.declared.token.Lexeme.{Lexeme}
use Rattle.rnc_lex.specs.declared.token.Lexeme.TheVariants.{Identifier, PrefixedName, Keyword as word, Symbol as mark}
use Rattle.rnc_lex.specs.declared.token.Symbol.{Symbol}
use Rattle.rnc_lex.specs.declared.token.Symbol.TheVariants.{LeftBrace, RightBrace, LeftParenthesis, RightParenthesis, LeftBracket}
use Rattle.rnc_lex.specs.declared.token.Symbol.TheVariants.{RightBracket, Follows}
use Rattle.rnc_parse.specs.declared.stop.Stop.{Stop}
use Rattle.rnc_parse.specs.declared.stop.Stop.TheVariants as stop
use Rattle.rnc_parse.specs.declared.annotation.Bracket.{Bracket}
use Rattle.rnc_parse.specs.declared.annotation.Bracket.TheVariants.{Plain, Opens, Closes}
use Rattle.rnc_parse.specs.Reading.{Reading, read, no_reading, ◌>>=◌, first, behind, same_symbol, stands, behind_symbol, loop_at}

-- what a token is among brackets: one that opens is told by the one that closes it
abbrev pub bracket_of : Lexeme → Bracket
bracket_of (mark LeftBrace) = Opens RightBrace
bracket_of (mark LeftParenthesis) = Opens RightParenthesis
bracket_of (mark LeftBracket) = Opens RightBracket
bracket_of (mark RightBrace) = Closes RightBrace
bracket_of (mark RightParenthesis) = Closes RightParenthesis
bracket_of (mark RightBracket) = Closes RightBracket
bracket_of _ = Plain

-- the brackets that are to come, the next one first, behind one more that closes
abbrev pub closed_by : Symbol → List Symbol → Option (List Symbol)
closed_by closer [] = None
closed_by closer (next ∷ later) = if same_symbol closer next then Some later else None

-- the same behind one more token
abbrev pub behind_bracket : Bracket → List Symbol → Option (List Symbol)
behind_bracket Plain closers = Some closers
behind_bracket (Opens closer) closers = Some (closer ∷ closers)
behind_bracket (Closes closer) closers = closed_by closer closers

-- a call leaves these brackets to come, or refuses the token, unless memory runs out
abbrev pub LeavesClosers : List Symbol → Result (Unit {0}) Stop → Option (List Symbol) → Type 0
LeavesClosers closers (Ok done) found = found ≡ Some closers
LeavesClosers closers (Err stop.Syntax) found = found ≡ None
LeavesClosers closers (Err (stop.NamePrefix prefix)) found = ⊥
LeavesClosers closers (Err (stop.TypePrefix prefix)) found = ⊥
LeavesClosers closers (Err stop.NoMemory) found = Unit {0}

-- what is behind the last of these brackets
unfoldable pub closed_at : List Symbol → List Lexeme → Reading (Unit {0})
closed_at closers [] = no_reading
closed_at closers (token ∷ tokens) = elim (behind_bracket (bracket_of token) closers) [
  | None ↦ no_reading
  | Some [] ↦ read tt tokens
  | Some (next ∷ later) ↦ closed_at (next ∷ later) tokens
]

-- what is behind a group
unfoldable pub group_at : List Lexeme → Reading (Unit {0})
group_at tokens = behind_symbol LeftBracket tokens >>= λ _ inside. closed_at (RightBracket ∷ []) inside

-- behind a group, if one is there
unfoldable pub opening_at : List Lexeme → Reading (Unit {0})
opening_at tokens = if stands LeftBracket tokens then group_at tokens else read tt tokens

-- whether the token may name an annotation among items, and one that follows
abbrev pub is_element_name : Option Lexeme → Bool
is_element_name (Some (Identifier name)) = true
is_element_name (Some (PrefixedName prefix local)) = true
is_element_name _ = false

abbrev pub is_follower : Option Lexeme → Bool
is_follower (Some (word keyword)) = true
is_follower token = is_element_name token

-- behind `>>`, a name and a group
unfoldable pub follower_at : List Lexeme → Reading (Unit {0})
follower_at tokens = behind_symbol Follows tokens >>= λ _ named. if is_follower (first named) then group_at (behind named) else no_reading

-- behind all that follows
unfoldable pub follow_at : List Lexeme → Reading (Unit {0})
follow_at tokens = loop_at (stands Follows) follower_at (λ _ _. tt) tt tokens
