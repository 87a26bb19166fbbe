-- What stands in front of a token of the compact syntax, as far as it says whether a type stands there, and of which type a facet is
-- given (ISO/IEC 19757-2, Annex C).
use Rattle.std.specs.Prelude.{ℕ, zero, suc, ◌+◌, ◌-◌, ◌&&◌, Bool, true, false, if◌then◌else◌, List, Option, Some, None}
use Rattle.rnc_lex.specs.declared.token.Lexeme.{Lexeme}
use Rattle.rnc_lex.specs.declared.token.Lexeme.TheVariants.{PrefixedName, Keyword as word, Symbol as mark}
use Rattle.rnc_lex.specs.declared.token.RncToken.{RncToken}
use Rattle.rnc_lex.specs.declared.token.Symbol.{Symbol}
use Rattle.rnc_lex.specs.declared.token.Symbol.TheVariants as symbol
use Rattle.rnc_lex.specs.declared.token.Keyword.{Keyword}
use Rattle.rnc_lex.specs.declared.token.Keyword.TheVariants as keyword
use Rattle.rng_widen.specs.declared.context.Context.{Context}
use Rattle.rng_widen.specs.declared.context.Stand.{Stand}
use Rattle.rng_widen.specs.declared.context.Stand.TheVariants as stands
use Rattle.rng_widen.specs.declared.schema_type.SchemaType.{SchemaType}
use Rattle.rng_widen.specs.CompactHead.{is_schemas}
use Rattle.rng_widen.specs.CompactTokens.{is_left_brace, is_right_brace, is_left_bracket, is_left_parenthesis, is_equals}
use Rattle.rng_widen.specs.CompactTokens.{opens_bracket, closes_bracket}
use Rattle.rng_widen.specs.Naming.{type_named}

-- a name class follows
abbrev pub opens_class : Keyword → Bool
opens_class keyword.Element = true
opens_class keyword.Attribute = true
opens_class _ = false

-- ---- types

-- the type of a name in a file of these tokens
abbrev pub type_of_name : List RncToken → Lexeme → Option SchemaType
type_of_name file (PrefixedName prefix local) = if is_schemas file prefix then type_named local else None
type_of_name file _ = None

-- ---- what stands in front

-- a type may stand here
abbrev pub takes_type : Stand → Bool
takes_type stands.Pattern = true
takes_type stands.Braced = true
takes_type _ = false

-- behind a mark
abbrev pub behind_mark : Symbol → Stand
behind_mark symbol.LeftBrace = stands.Braced
behind_mark symbol.LeftParenthesis = stands.Pattern
behind_mark symbol.Equals = stands.Pattern
behind_mark symbol.BarEquals = stands.Pattern
behind_mark symbol.AmpersandEquals = stands.Pattern
behind_mark symbol.Comma = stands.Pattern
behind_mark symbol.Bar = stands.Pattern
behind_mark symbol.Ampersand = stands.Pattern
behind_mark symbol.Minus = stands.Except
behind_mark symbol.Follows = stands.Follower
behind_mark _ = stands.Other

abbrev pub behind_type : Option SchemaType → Stand
behind_type None = stands.Other
behind_type (Some named) = stands.Typed named

-- behind a name, where a type may stand or not
abbrev pub behind_name : List RncToken → Bool → Lexeme → Stand
behind_name file true name = behind_type (type_of_name file name)
behind_name file false name = stands.Other

abbrev pub behind_keyword : Keyword → Stand
behind_keyword key = if opens_class key then stands.Class else stands.Other

-- behind a token of a pattern, or between patterns
abbrev pub behind_token : List RncToken → Stand → Lexeme → Stand
behind_token file before (mark sign) = behind_mark sign
behind_token file before (word key) = behind_keyword key
behind_token file before (PrefixedName prefix local) = behind_name file (takes_type before) (PrefixedName prefix local)
behind_token file before _ = stands.Other

-- behind a token of a name class: `{` ends it, and `=` says that it was none, but a declaration or a param of that name
abbrev pub behind_class : Lexeme → Stand
behind_class token = if is_left_brace token then stands.Braced else (if is_equals token then stands.Pattern else stands.Class)

-- behind a token among the params of a type
abbrev pub behind_param : SchemaType → Lexeme → Stand
behind_param named token = if is_right_brace token then stands.Other else stands.Params named false

-- behind a token that stands behind a type: `{` begins its params
abbrev pub behind_typed : List RncToken → SchemaType → Lexeme → Stand
behind_typed file named token = if is_left_brace token then stands.Params named false else behind_token file stands.Other token

-- behind a token, outside of annotations
abbrev pub behind_stand : List RncToken → Stand → Lexeme → Stand
behind_stand file stands.Class token = behind_class token
behind_stand file (stands.Params named annotated) token = behind_param named token
behind_stand file (stands.Typed named) token = behind_typed file named token
behind_stand file stands.Except token = stands.Other
behind_stand file stands.Follower token = stands.Other
behind_stand file stands.Other token = behind_token file stands.Other token
behind_stand file stands.Pattern token = behind_token file stands.Pattern token
behind_stand file stands.Braced token = behind_token file stands.Braced token

-- an annotation changes nothing, but that it belongs to the param behind it
abbrev pub annotated : Stand → Stand
annotated (stands.Params named before) = stands.Params named true
annotated other = other

abbrev pub is_except : Stand → Bool
is_except stands.Except = true
is_except _ = false

-- how many brackets are open behind a token, where so many are open of what is passed over
abbrev pub passed_behind : ℕ → Lexeme → ℕ
passed_behind passed token = if opens_bracket token then passed + 1 else (if closes_bracket token then passed - 1 else passed)

-- behind a token that isn't passed over: an annotation is, and what is excepted in parentheses
abbrev pub behind_unpassed : List RncToken → Stand → Lexeme → Context
behind_unpassed file before token =
    if is_left_bracket token then record { stand = annotated before; passed = 1 }
    else (if is_except before && is_left_parenthesis token then record { stand = stands.Other; passed = 1 }
    else record { stand = behind_stand file before token; passed = 0 })

-- behind a token, by how many brackets are open of what is passed over
abbrev pub behind_by : ℕ → List RncToken → Stand → Lexeme → Context
behind_by zero file before token = behind_unpassed file before token
behind_by (suc n) file before token = record { stand = before; passed = passed_behind (suc n) token }

unfoldable pub behind : List RncToken → Context → Lexeme → Context
behind file context token = behind_by context.passed file context.stand token

-- in front of the body of a file, which is a pattern or items of a grammar, as what stands in braces
abbrev pub outermost : Context
outermost = record { stand = stands.Braced; passed = 0 }
