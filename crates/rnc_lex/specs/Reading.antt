-- What reading finds at the front of characters and of letters. Which letters and tokens a text has, `Letters` and
-- `Tokens` say; reading finds those, and a fault exactly where there are none.
use Rattle.std.specs.Prelude.{◌≡◌, ℕ, zero, suc, ◌+◌, ◌&&◌, ◌==◌, not, nat_lt, Bool, true, false, if◌then◌else◌, List, [], ◌∷◌, ◌++◌}
use Rattle.std.specs.Prelude.{length, take, drop, slice_index, Option, Some, None, Result, Ok, Err}
use Rattle.std.specs.List.{prefix_len, find}
use Rattle.std.specs.Option.{option_map}
use Rattle.std.specs.Char.{is_ascii_hexdigit}
use Rattle.std.specs.Str.{chars, bytes_eq}
use Rattle.std.specs.Str.Parse.{digits_value}
use Rattle.nx_base.specs.CharacterCodes.{char_of_code}
use Rattle.nx_base.specs.Characters.{is_char, is_space, is_quote}
use Rattle.rnc_lex.specs.declared.escape.First.{First}
use Rattle.rnc_lex.specs.declared.escape.First.TheVariants as first
use Rattle.rnc_lex.specs.declared.front.Front.{Front}
use Rattle.rnc_lex.specs.declared.letter.Letter.{Letter}
use Rattle.rnc_lex.specs.declared.fault.LexFault.{LexFault}
use Rattle.rnc_lex.specs.declared.fault.LexFault.TheVariants.{BadEscape, BadLiteral, BadCharacter, NoMemory}
use Rattle.rnc_lex.specs.declared.token.Keyword.{Keyword}
use Rattle.rnc_lex.specs.declared.token.Keyword.TheVariants as word
use Rattle.rnc_lex.specs.declared.token.Symbol.{Symbol}
use Rattle.rnc_lex.specs.declared.token.Symbol.TheVariants as mark
use Rattle.rnc_lex.specs.declared.token.Lexeme.{Lexeme}
use Rattle.rnc_lex.specs.declared.token.Lexeme.TheVariants as lexeme
use Rattle.rnc_lex.specs.declared.token.RncToken.{RncToken}
use Rattle.rnc_lex.specs.Letters.{place, without_mark}
use Rattle.rnc_lex.specs.Words.{keyword_text}
use Rattle.rnc_lex.specs.Tokens.{utf8, begins_nc_name, is_nc_name_char}

-- a call answers what reading finds, seen by view, unless memory runs out
abbrev pub Finds : {A B : Type 0} → (A → B) → Result A LexFault → Result B LexFault → Type 0
Finds view (Ok value) found = found ≡ Ok (view value)
Finds view (Err (BadEscape at)) found = found ≡ Err (BadEscape at)
Finds view (Err (BadLiteral at)) found = found ≡ Err (BadLiteral at)
Finds view (Err (BadCharacter at)) found = found ≡ Err (BadCharacter at)
Finds view (Err NoMemory) found = Unit {0}

-- what was found, changed
abbrev pub then_found : {A B : Type 0} → (A → B) → Result A LexFault → Result B LexFault
then_found change (Ok value) = Ok (change value)
then_found change (Err fault) = Err fault

-- ---- letters

abbrev pub is_x : ℕ → Bool
is_x c = c == 120

-- an escape of so many characters behind its `\`, with the Char that it denotes
abbrev pub of_char : ℕ → Option ℕ → First
of_char more None = first.BrokenEscape
of_char more (Some c) = first.Letter c false more

-- what an escape stands for, by what is behind its `{`, which is so many characters behind its `\`: digits, and `}` (125)
unfoldable pub escaped : ℕ → List ℕ → First
escaped before inside =
    let count = prefix_len is_ascii_hexdigit inside in
    if nat_lt 0 count && slice_index inside count == 125 then of_char (before + count + 1)
    (char_of_code (digits_value 16 (take count inside)))
    else first.BrokenEscape

-- what `\` (92) and the characters behind it begin with: itself, unless `x`s and `{` (123) follow it
unfoldable pub behind_backslash : List ℕ → First
behind_backslash behind =
    let xs = prefix_len is_x behind in
    if nat_lt 0 xs && slice_index behind xs == 123 then escaped (xs + 1) (drop (xs + 1) behind)
    else first.Letter 92 true 0

-- what a character and those behind it begin with; CR is 13, LF is 10
unfoldable pub first_letter : ℕ → List ℕ → First
first_letter c behind =
    if c == 13 then first.Letter 10 true (if slice_index behind 0 == 10 then 1 else 0)
    else (if c == 92 then behind_backslash behind
    else (if is_char c then first.Letter c true 0
    else first.NoChar))

abbrev pub letter_of : ℕ → ℕ → Bool → Letter
letter_of at c written = record { at = at; character = c; written = written }

-- the letter found at a place, in front of those behind it
abbrev pub onto_letters : ℕ → First → (ℕ → Result (List Letter) LexFault) → Result (List Letter) LexFault
onto_letters at (first.Letter c written more) behind = then_found (λ letters. letter_of at c written ∷ letters) (behind more)
onto_letters at first.BrokenEscape behind = Err (BadEscape at)
onto_letters at first.NoChar behind = Err (BadCharacter at)

-- the letters of characters, the last ones of a text of so many bytes, where the first few belong to a letter before
unfoldable pub letters_from : ℕ → ℕ → List ℕ → Result (List Letter) LexFault
letters_from len skipped [] = Ok []
letters_from len (suc skipped) (c ∷ cs) = letters_from len skipped cs
letters_from len zero (c ∷ cs) = onto_letters (place len (c ∷ cs)) (first_letter c cs) (λ more. letters_from len more cs)

-- the letters of a text
unfoldable pub letters_of : List ℕ → Result (List Letter) LexFault
letters_of text = letters_from (length text) 0 (without_mark (chars text))

-- ---- tokens

abbrev pub front : Option Lexeme → ℕ → Front
front found more = record { lexeme = found; more = more }

-- how many letters at the front may stand in an NCName
abbrev pub name_len : List Letter → ℕ
name_len letters = prefix_len (λ (letter : Letter). is_nc_name_char letter.character) letters

-- every keyword
abbrev pub keywords : List Keyword
keywords =
    word.Attribute ∷ word.Default ∷ word.Datatypes ∷ word.Div ∷ word.Element ∷ word.Empty ∷ word.External ∷ word.Grammar
    ∷ word.Include ∷ word.Inherit ∷ word.List ∷ word.Mixed ∷ word.Namespace ∷ word.NotAllowed ∷ word.Parent ∷ word.Start
    ∷ word.String ∷ word.Text ∷ word.Token ∷ []

-- the keyword of this spelling, if it is one
unfoldable pub keyword_of : List ℕ → Option Keyword
keyword_of text = find (λ k. bytes_eq (keyword_text k) text) keywords

-- a keyword, or an identifier
abbrev pub keyword_or : List ℕ → Option Keyword → Lexeme
keyword_or text None = lexeme.Identifier text
keyword_or text (Some k) = lexeme.Keyword k

unfoldable pub word_of : List ℕ → Lexeme
word_of text = keyword_or text (keyword_of text)

-- the token of a name that is no prefix
unfoldable pub plain : Letter → List Letter → Result Front LexFault
plain first more = Ok (front (Some (word_of (utf8 (first ∷ more)))) (length more))

-- of a name as a prefix, and of the local name that begins with `next`
unfoldable pub prefixed : Letter → List Letter → Letter → List Letter → Result Front LexFault
prefixed first more next rest =
    let len = name_len rest in
    Ok (front (Some (lexeme.PrefixedName (utf8 (first ∷ more)) (utf8 (next ∷ take len rest)))) (length more + 2 + len))

-- of a name and the `:*` behind it
abbrev pub wildcard : Letter → List Letter → Result Front LexFault
wildcard first more = Ok (front (Some (lexeme.NamespaceWildcard (utf8 (first ∷ more)))) (length more + 2))

-- of a name with a `:` and these letters behind it; `*` is 42
unfoldable pub qualified : Letter → List Letter → List Letter → Result Front LexFault
qualified first more [] = plain first more
qualified first more (next ∷ rest) =
    if next.character == 42 then wildcard first more
    else (if begins_nc_name next.character then prefixed first more next rest
    else plain first more)

-- of a name with these letters behind it; `:` is 58
abbrev pub after_name : Letter → List Letter → List Letter → Result Front LexFault
after_name first more [] = plain first more
after_name first more (colon ∷ behind) = if colon.character == 58 then qualified first more behind else plain first more

-- of the name that begins with this letter
unfoldable pub named : Letter → List Letter → Result Front LexFault
named first behind = let len = name_len behind in after_name first (take len behind) (drop len behind)

-- the identifier behind a `\`
unfoldable pub escaped_name : Letter → List Letter → Result Front LexFault
escaped_name first [] = Err (BadCharacter first.at)
escaped_name first (next ∷ rest) =
    let len = name_len rest in
    if begins_nc_name next.character then Ok (front (Some (lexeme.Identifier (utf8 (next ∷ take len rest)))) (1 + len))
    else Err (BadCharacter first.at)

-- two such quotes stand at the front
unfoldable pub begins_two : ℕ → List Letter → Bool
begins_two quote [] = false
begins_two quote (first ∷ []) = false
begins_two quote (first ∷ second ∷ letters) = first.character == quote && second.character == quote

-- three stand there
unfoldable pub begins_three : ℕ → List Letter → Bool
begins_three quote [] = false
begins_three quote (first ∷ letters) = first.character == quote && begins_two quote letters

-- how many letters stand before the first three such quotes in a row
unfoldable pub before_three : ℕ → List Letter → Option ℕ
before_three quote [] = None
before_three quote (letter ∷ letters) =
    if begins_three quote (letter ∷ letters) then Some 0
    else option_map (λ n. n + 1) (before_three quote letters)

-- the literal that three quotes began, from what is behind them
abbrev pub up_to_three : Letter → List Letter → Option ℕ → Result Front LexFault
up_to_three first inside None = Err (BadLiteral first.at)
up_to_three first inside (Some len) = Ok (front (Some (lexeme.Literal (utf8 (take len inside)))) (len + 5))

unfoldable pub long_literal : Letter → List Letter → Result Front LexFault
long_literal first inside = up_to_three first inside (before_three first.character inside)

-- a letter that may stand between two such quotes
abbrev pub is_in_line : ℕ → Letter → Bool
is_in_line quote letter = not (letter.character == quote) && not (letter.character == 10 && letter.written)

abbrev pub line_len : ℕ → List Letter → ℕ
line_len quote letters = prefix_len (is_in_line quote) letters

-- the literal that one quote began, of these letters, with those behind it
abbrev pub closed : Letter → List Letter → List Letter → Result Front LexFault
closed first inside [] = Err (BadLiteral first.at)
closed first inside (last ∷ rest) =
    if last.character == first.character then Ok (front (Some (lexeme.Literal (utf8 inside))) (length inside + 1))
    else Err (BadLiteral first.at)

unfoldable pub short_literal : Letter → List Letter → Result Front LexFault
short_literal first behind = let len = line_len first.character behind in closed first (take len behind) (drop len behind)

-- the literal that begins with this quote
unfoldable pub literal : Letter → List Letter → Result Front LexFault
literal first behind =
    if begins_two first.character behind then long_literal first (drop 2 behind)
    else short_literal first behind

-- the marks of one character
abbrev pub singles : List (ℕ × Symbol)
singles =
    (123, mark.LeftBrace) ∷ (125, mark.RightBrace) ∷ (40, mark.LeftParenthesis) ∷ (41, mark.RightParenthesis)
    ∷ (91, mark.LeftBracket) ∷ (93, mark.RightBracket) ∷ (61, mark.Equals) ∷ (44, mark.Comma) ∷ (124, mark.Bar)
    ∷ (38, mark.Ampersand) ∷ (63, mark.QuestionMark) ∷ (42, mark.Star) ∷ (43, mark.Plus) ∷ (45, mark.Minus)
    ∷ (126, mark.Tilde) ∷ []

-- the mark of a character, if it is in these rows
abbrev pub mark_in : List (ℕ × Symbol) → ℕ → Option Symbol
mark_in [] c = None
mark_in (row ∷ rows) c = if c == row.0 then Some row.1 else mark_in rows c

unfoldable pub single_symbol : ℕ → Option Symbol
single_symbol c = mark_in singles c

-- the mark of two characters
unfoldable pub double_symbol : ℕ → ℕ → Option Symbol
double_symbol c next =
    if c == 124 && next == 61 then Some mark.BarEquals
    else (if c == 38 && next == 61 then Some mark.AmpersandEquals
    else (if c == 62 && next == 62 then Some mark.Follows
    else None))

abbrev pub symbol_or : ℕ → Result Front LexFault → Option Symbol → Result Front LexFault
symbol_or more other None = other
symbol_or more other (Some s) = Ok (front (Some (lexeme.Symbol s)) more)

unfoldable pub marked_single : Letter → Result Front LexFault
marked_single first = symbol_or 0 (Err (BadCharacter first.at)) (single_symbol first.character)

-- a mark of two characters, or of one
unfoldable pub marked : Letter → List Letter → Result Front LexFault
marked first [] = marked_single first
marked first (next ∷ rest) = symbol_or 1 (marked_single first) (double_symbol first.character next.character)

-- how many letters stand before the end of the line
abbrev pub comment_len : List Letter → ℕ
comment_len letters = prefix_len (λ (letter : Letter). not (letter.character == 10)) letters

-- what stands at the front, by the first letter; `#` is 35
unfoldable pub front_of : Letter → List Letter → Result Front LexFault
front_of first behind =
    if is_space first.character then Ok (front None 0)
    else (if first.character == 35 then Ok (front None (comment_len behind))
    else (if is_quote first.character then literal first behind
    else (if first.character == 92 then escaped_name first behind
    else (if begins_nc_name first.character then named first behind
    else marked first behind))))

-- a token, unless it is passed over
abbrev pub listed : ℕ → Option Lexeme → List RncToken
listed at None = []
listed at (Some found) = record { at = at; lexeme = found } ∷ []

abbrev pub after_front : ℕ → Result Front LexFault → (ℕ → Result (List RncToken) LexFault) → Result (List RncToken) LexFault
after_front at (Err fault) behind = Err fault
after_front at (Ok found) behind = then_found (λ tokens. listed at found.lexeme ++ tokens) (behind found.more)

-- the tokens of letters, where the first few belong to a token before
unfoldable pub tokens_from : ℕ → List Letter → Result (List RncToken) LexFault
tokens_from skipped [] = Ok []
tokens_from (suc skipped) (letter ∷ letters) = tokens_from skipped letters
tokens_from zero (letter ∷ letters) = after_front letter.at (front_of letter letters) (λ more. tokens_from more letters)

unfoldable pub tokens_of : List Letter → Result (List RncToken) LexFault
tokens_of letters = tokens_from 0 letters

-- the tokens of a text: of its letters
abbrev pub after_letters : Result (List Letter) LexFault → Result (List RncToken) LexFault
after_letters (Ok letters) = tokens_of letters
after_letters (Err fault) = Err fault

unfoldable pub lexed : List ℕ → Result (List RncToken) LexFault
lexed text = after_letters (letters_of text)
