-- How keywords and marks are spelled (ISO/IEC 19757-2, Annex C).
use Rattle.std.specs.Prelude.{ℕ, List, codes}
use Rattle.rnc_lex.specs.declared.token.Keyword.{Keyword}
use Rattle.rnc_lex.specs.declared.token.Keyword.TheVariants as word
use Rattle.rnc_lex.specs.declared.token.Symbol.{Symbol}
use Rattle.rnc_lex.specs.declared.token.Symbol.TheVariants as mark

abbrev pub keyword_text : Keyword → List ℕ
keyword_text word.Attribute = codes "attribute"
keyword_text word.Default = codes "default"
keyword_text word.Datatypes = codes "datatypes"
keyword_text word.Div = codes "div"
keyword_text word.Element = codes "element"
keyword_text word.Empty = codes "empty"
keyword_text word.External = codes "external"
keyword_text word.Grammar = codes "grammar"
keyword_text word.Include = codes "include"
keyword_text word.Inherit = codes "inherit"
keyword_text word.List = codes "list"
keyword_text word.Mixed = codes "mixed"
keyword_text word.Namespace = codes "namespace"
keyword_text word.NotAllowed = codes "notAllowed"
keyword_text word.Parent = codes "parent"
keyword_text word.Start = codes "start"
keyword_text word.String = codes "string"
keyword_text word.Text = codes "text"
keyword_text word.Token = codes "token"

abbrev pub symbol_text : Symbol → List ℕ
symbol_text mark.LeftBrace = codes "{"
symbol_text mark.RightBrace = codes "}"
symbol_text mark.LeftParenthesis = codes "("
symbol_text mark.RightParenthesis = codes ")"
symbol_text mark.LeftBracket = codes "["
symbol_text mark.RightBracket = codes "]"
symbol_text mark.Equals = codes "="
symbol_text mark.BarEquals = codes "|="
symbol_text mark.AmpersandEquals = codes "&="
symbol_text mark.Comma = codes ","
symbol_text mark.Bar = codes "|"
symbol_text mark.Ampersand = codes "&"
symbol_text mark.QuestionMark = codes "?"
symbol_text mark.Star = codes "*"
symbol_text mark.Plus = codes "+"
symbol_text mark.Minus = codes "-"
symbol_text mark.Tilde = codes "~"
symbol_text mark.Follows = codes ">>"
