-- The tokens of a text (ISO/IEC 19757-2, Annex C), over its letters.
use Rattle.std.specs.Prelude.{◌≡◌, ◌≢◌, ℕ, ◌&&◌, ◌||◌, ◌==◌, ◌⊎◌, Bool, true, not, List, [], ◌∷◌, ◌++◌, map, codes, Result, Ok, Err, IsTrue}
use Rattle.std.specs.List.{AllByRecursion}
use Rattle.std.specs.Str.{encode_utf8_all}
use Rattle.nx_base.specs.Characters.{is_space, is_name_start, is_name_char, is_nc_name, is_quote}
use Rattle.rnc_lex.specs.declared.letter.Letter.{Letter}
use Rattle.rnc_lex.specs.declared.fault.LexFault.{LexFault}
use Rattle.rnc_lex.specs.declared.fault.LexFault.TheVariants.{BadEscape, BadLiteral, BadCharacter, NoMemory}
use Rattle.rnc_lex.specs.declared.token.Keyword.{Keyword}
use Rattle.rnc_lex.specs.declared.token.Symbol.{Symbol}
use Rattle.rnc_lex.specs.declared.token.Lexeme.{Lexeme}
use Rattle.rnc_lex.specs.declared.token.Lexeme.TheVariants as lexeme
use Rattle.rnc_lex.specs.declared.token.RncToken.{RncToken}
use Rattle.rnc_lex.specs.Letters.{IsLettersOf, BadEscapeAt, NoCharAt}
use Rattle.rnc_lex.specs.Words.{keyword_text, symbol_text}

-- the characters of letters, and their UTF-8
abbrev pub said : List Letter → List ℕ
said letters = map (λ (letter : Letter). letter.character) letters

abbrev pub utf8 : List Letter → List ℕ
utf8 letters = encode_utf8_all (said letters)

-- the place of the first letter
abbrev pub place_of : List Letter → ℕ
place_of [] = 0
place_of (letter ∷ letters) = letter.at

-- the first character passes the test
abbrev pub Begins : (ℕ → Bool) → List ℕ → Type 0
Begins p [] = ⊥
Begins p (c ∷ cs) = IsTrue (p c)

-- an NCName begins with the one and goes on with the other: `:` (58) is in neither
abbrev pub begins_nc_name : ℕ → Bool
begins_nc_name c = is_name_start c && not (c == 58)

abbrev pub is_nc_name_char : ℕ → Bool
is_nc_name_char c = is_name_char c && not (c == 58)

-- an NCName, taken as long as it goes in front of the rest
abbrev pub IsWholeName : List Letter → List Letter → Type 0
IsWholeName name rest = IsTrue (is_nc_name (said name)) × (Begins is_nc_name_char (said rest) → ⊥)

-- `:` and a name, or `:*`, with which a name is a prefix
abbrev pub IsQualified : List ℕ → Type 0
IsQualified rest = (more : List ℕ) × (rest ≡ codes ":" ++ more) × Begins (λ c. begins_nc_name c || (c == 42)) more

-- an NCName that is no prefix
abbrev pub IsPlainName : List Letter → List Letter → Type 0
IsPlainName name rest = IsWholeName name rest × (IsQualified (said rest) → ⊥)

-- letters that may stand between two such quotes: not the quote, and no written newline (10)
abbrev pub AreInLine : ℕ → List Letter → Type 0
AreInLine quote inside = AllByRecursion
    (λ (letter : Letter). (letter.character ≢ quote) × ((letter.character ≡ 10) × (letter.written ≡ true) → ⊥)) inside

-- three such quotes
abbrev pub three : ℕ → List ℕ
three quote = quote ∷ quote ∷ quote ∷ []

-- three such quotes in a row stand nowhere in these characters and the first two of three behind them
abbrev pub AreUpToThree : ℕ → List ℕ → Type 0
AreUpToThree quote inside = (front back : List ℕ) → inside ++ quote ∷ quote ∷ [] ≢ front ++ three quote ++ back

-- these letters, in front of the rest, are one token
pub data Stands (letters rest : List Letter) (found : Lexeme) : Type 0 where
  -- a name that is no keyword
  identifier : IsPlainName letters rest → ((k : Keyword) → said letters ≢ keyword_text k) → found ≡ lexeme.Identifier (utf8 letters) →
      Stands letters rest found
  keyword : (k : Keyword) → IsPlainName letters rest → said letters ≡ keyword_text k → found ≡ lexeme.Keyword k → Stands letters rest found
  -- `\` (92) and a name
  escaped_identifier : (mark : Letter) (name : List Letter) → letters ≡ mark ∷ name → mark.character ≡ 92 → IsWholeName name rest →
      found ≡ lexeme.Identifier (utf8 name) → Stands letters rest found
  -- a name, `:` and a name
  prefixed_name : (name local : List Letter) (colon : Letter) → letters ≡ name ++ colon ∷ local → IsTrue (is_nc_name (said name)) →
      colon.character ≡ 58 → IsWholeName local rest → found ≡ lexeme.PrefixedName (utf8 name) (utf8 local) → Stands letters rest found
  -- a name and `:*`
  namespace_wildcard : (name mark : List Letter) → letters ≡ name ++ mark → IsTrue (is_nc_name (said name)) → said mark ≡ codes ":*" →
      found ≡ lexeme.NamespaceWildcard (utf8 name) → Stands letters rest found
  -- between two quotes, of which three in a row would open another literal instead
  short_literal : (first last : Letter) (inside : List Letter) → letters ≡ first ∷ inside ++ last ∷ [] →
      IsTrue (is_quote first.character) → last.character ≡ first.character → AreInLine first.character inside →
      (inside ≡ [] → Begins (λ c. c == first.character) (said rest) → ⊥) →
      found ≡ lexeme.Literal (utf8 inside) → Stands letters rest found
  -- between three quotes and the next three in a row
  long_literal : (quote : ℕ) (before inside behind : List Letter) → letters ≡ before ++ inside ++ behind → IsTrue (is_quote quote) →
      said before ≡ three quote → said behind ≡ three quote → AreUpToThree quote (said inside) → found ≡ lexeme.Literal (utf8 inside) →
      Stands letters rest found
  -- a mark that doesn't go on to a longer one
  symbol : (s : Symbol) → said letters ≡ symbol_text s
      → ((t : Symbol) (c : ℕ) (more : List ℕ) → said rest ≡ c ∷ more → symbol_text t ≢ symbol_text s ++ c ∷ []) →
      found ≡ lexeme.Symbol s → Stands letters rest found

-- these letters, in front of the rest, are passed over
pub data IsPassedOver (letters rest : List Letter) : Type 0 where
  space : (letter : Letter) → letters ≡ letter ∷ [] → IsTrue (is_space letter.character) → IsPassedOver letters rest
  -- `#` (35) to the end of the line
  comment : (mark : Letter) (inside : List Letter) → letters ≡ mark ∷ inside → mark.character ≡ 35 →
      AllByRecursion (λ (letter : Letter). letter.character ≢ 10) inside → (Begins (λ c. not (c == 10)) (said rest) → ⊥) →
      IsPassedOver letters rest

-- letters are these tokens, what is passed over between them, and then the rest
pub data AreTokens (rest : List Letter) : List Letter → List RncToken → Type 0 where
  ended : {letters : List Letter} {tokens : List RncToken} → letters ≡ rest → tokens ≡ [] → AreTokens rest letters tokens
  passed : {letters : List Letter} {tokens : List RncToken} (front more : List Letter) → letters ≡ front ++ more →
      IsPassedOver front more → AreTokens rest more tokens → AreTokens rest letters tokens
  taken : {letters : List Letter} {tokens : List RncToken} (front more : List Letter) (token : RncToken) (others : List RncToken) →
      letters ≡ front ++ more → tokens ≡ token ∷ others → Stands front more token.lexeme → token.at ≡ place_of front →
      AreTokens rest more others → AreTokens rest letters tokens

-- the text is these tokens
abbrev pub IsTokensOf : List ℕ → List RncToken → Type 0
IsTokensOf text tokens = (letters : List Letter) × IsLettersOf text letters × AreTokens [] letters tokens

-- the text's letters are tokens, and then these
abbrev pub StandsBehindTokens : List ℕ → List Letter → Type 0
StandsBehindTokens text rest = (letters : List Letter) × (tokens : List RncToken) × IsLettersOf text letters × AreTokens rest letters tokens

-- no token begins here
abbrev pub BeginsNoToken : List Letter → Type 0
BeginsNoToken letters = (front more : List Letter) (found : Lexeme) → letters ≡ front ++ more → Stands front more found → ⊥

-- nor anything that is passed over
abbrev pub BeginsNothing : List Letter → Type 0
BeginsNothing letters = BeginsNoToken letters × ((front more : List Letter) → letters ≡ front ++ more → IsPassedOver front more → ⊥)

-- behind tokens, at this place, a quote stands, and no literal
abbrev pub BadLiteralAt : List ℕ → ℕ → Type 0
BadLiteralAt text at = (rest : List Letter) × StandsBehindTokens text rest × Begins is_quote
    (said rest) × BeginsNoToken rest × (at ≡ place_of rest)

-- behind tokens, at this place, a letter stands that is no quote, and with which nothing begins
abbrev pub NoTokenAt : List ℕ → ℕ → Type 0
NoTokenAt text at = (rest : List Letter) × StandsBehindTokens text rest × Begins (λ c. not (is_quote c))
    (said rest) × BeginsNothing rest × (at ≡ place_of rest)

-- what reading a text answers: its tokens, or the place of the first fault. Escapes and Chars are judged in the whole text
-- before its tokens are
abbrev pub Lexes : List ℕ → Result (List RncToken) LexFault → Type 0
Lexes text (Ok tokens) = IsTokensOf text tokens
Lexes text (Err (BadEscape at)) = BadEscapeAt text at
Lexes text (Err (BadLiteral at)) = BadLiteralAt text at
Lexes text (Err (BadCharacter at)) = NoCharAt text at ⊎ NoTokenAt text at
Lexes text (Err NoMemory) = Unit {0}
