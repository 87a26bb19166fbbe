-- Tests of tokens of the compact syntax (ISO/IEC 19757-2, Annex C).
use Rattle.std.specs.Prelude.{ℕ, Bool, true, false, List, [], ◌∷◌, Option, Some, None}
use Rattle.rnc_lex.specs.declared.token.Lexeme.{Lexeme}
use Rattle.rnc_lex.specs.declared.token.Lexeme.TheVariants.{Identifier, Literal, Keyword as word, Symbol as mark}
use Rattle.rnc_lex.specs.declared.token.Keyword.TheVariants as keyword
use Rattle.rnc_lex.specs.declared.token.RncToken.{RncToken}
use Rattle.rnc_lex.specs.declared.token.Symbol.TheVariants as symbol
use Rattle.rnc_lex.specs.Words.{keyword_text}

-- the first token passes the test
abbrev pub begins : (Lexeme → Bool) → List RncToken → Bool
begins p [] = false
begins p (token ∷ tokens) = p token.lexeme

abbrev pub is_left_brace : Lexeme → Bool
is_left_brace (mark symbol.LeftBrace) = true
is_left_brace _ = false

abbrev pub is_right_brace : Lexeme → Bool
is_right_brace (mark symbol.RightBrace) = true
is_right_brace _ = false

abbrev pub is_left_bracket : Lexeme → Bool
is_left_bracket (mark symbol.LeftBracket) = true
is_left_bracket _ = false

abbrev pub is_left_parenthesis : Lexeme → Bool
is_left_parenthesis (mark symbol.LeftParenthesis) = true
is_left_parenthesis _ = false

abbrev pub is_equals : Lexeme → Bool
is_equals (mark symbol.Equals) = true
is_equals _ = false

abbrev pub is_tilde : Lexeme → Bool
is_tilde (mark symbol.Tilde) = true
is_tilde _ = false

abbrev pub is_literal : Lexeme → Bool
is_literal (Literal text) = true
is_literal _ = false

-- a bracket of any kind is opened, or closed
abbrev pub opens_bracket : Lexeme → Bool
opens_bracket (mark symbol.LeftBrace) = true
opens_bracket (mark symbol.LeftParenthesis) = true
opens_bracket (mark symbol.LeftBracket) = true
opens_bracket _ = false

abbrev pub closes_bracket : Lexeme → Bool
closes_bracket (mark symbol.RightBrace) = true
closes_bracket (mark symbol.RightParenthesis) = true
closes_bracket (mark symbol.RightBracket) = true
closes_bracket _ = false

abbrev pub is_datatypes : Lexeme → Bool
is_datatypes (word keyword.Datatypes) = true
is_datatypes _ = false

-- a name, also one that is a keyword elsewhere
abbrev pub name_of : Lexeme → Option (List ℕ)
name_of (Identifier name) = Some name
name_of (word key) = Some (keyword_text key)
name_of _ = None
