-- What reading finds of declarations and of whole files. The program's own functions; no public contract rests on them.
use Rattle.std.specs.Prelude.{ℕ, Bool, true, false, ◌||◌, if◌then◌else◌, List, [], ◌∷◌, ◌++◌, Option, Some, None}
use Rattle.rnc_lex.specs.declared.token.Lexeme.{Lexeme}
use Rattle.rnc_lex.specs.declared.token.Lexeme.TheVariants.{Identifier, PrefixedName, Keyword as word, Symbol as mark}
use Rattle.rnc_lex.specs.declared.token.Symbol.TheVariants.{LeftBracket, Equals, BarEquals, AmpersandEquals}
use Rattle.rnc_lex.specs.declared.token.Keyword.TheVariants as keyword
use Rattle.rnc_parse.specs.declared.declaration.Declaration.{Declaration}
use Rattle.rnc_parse.specs.declared.declaration.Declaration.TheVariants as declaration
use Rattle.rnc_parse.specs.declared.surface.Namespace.{Namespace}
use Rattle.rnc_parse.specs.declared.surface.Namespace.TheVariants.{Inherited, Uri}
use Rattle.rnc_parse.specs.Written.{WrittenSurface, a_pattern, a_grammar}
use Rattle.rnc_parse.specs.Scopes.{Scope}
use Rattle.rnc_parse.specs.Reading.{Reading, read, no_reading, ◌>>=◌, first, behind, stands, behind_symbol, loop_at}
use Rattle.rnc_parse.specs.ReadingAnnotations.{opening_at}
use Rattle.rnc_parse.specs.ReadingParts.{literal_at, any_id_at, is_inherit}
use Rattle.rnc_parse.specs.ReadingPatterns.{pattern_at, items_at}

-- ---- declarations

unfoldable pub namespace_uri_at : List Lexeme → Reading Namespace
namespace_uri_at tokens =
    if is_inherit (first tokens) then read Inherited (behind tokens) else (literal_at tokens >>= λ uri rest. read (Uri uri) rest)

abbrev pub is_namespace_word : Option Lexeme → Bool
is_namespace_word (Some (word keyword.Namespace)) = true
is_namespace_word _ = false

-- the prefix in front of a `=`, if there is one
unfoldable pub default_prefix_at : List Lexeme → Reading (Option (List ℕ))
default_prefix_at tokens = if stands Equals tokens then read None tokens else (any_id_at tokens >>= λ prefix rest. read (Some prefix) rest)

unfoldable pub namespace_declaration_at : List Lexeme → Reading Declaration
namespace_declaration_at tokens =
    any_id_at tokens >>= λ prefix sign.
    behind_symbol Equals sign >>= λ _ said.
    namespace_uri_at said >>= λ ns rest.
    read (declaration.Namespace prefix ns) rest

unfoldable pub default_declaration_at : List Lexeme → Reading Declaration
default_declaration_at tokens =
    if is_namespace_word (first tokens)
    then (default_prefix_at (behind tokens) >>= λ prefix sign.
    behind_symbol Equals sign >>= λ _ said.
    namespace_uri_at said >>= λ ns rest.
    read (declaration.Default prefix ns) rest)
    else no_reading

unfoldable pub library_declaration_at : List Lexeme → Reading Declaration
library_declaration_at tokens =
    any_id_at tokens >>= λ prefix sign.
    behind_symbol Equals sign >>= λ _ said.
    literal_at said >>= λ uri rest.
    read (declaration.Datatypes prefix uri) rest

abbrev pub declaration_by : Option Lexeme → List Lexeme → Reading Declaration
declaration_by (Some (word keyword.Namespace)) rest = namespace_declaration_at rest
declaration_by (Some (word keyword.Default)) rest = default_declaration_at rest
declaration_by (Some (word keyword.Datatypes)) rest = library_declaration_at rest
declaration_by _ rest = no_reading

unfoldable pub declaration_at : List Lexeme → Reading Declaration
declaration_at tokens = declaration_by (first tokens) (behind tokens)

abbrev pub is_declaration : Option Lexeme → Bool
is_declaration (Some (word keyword.Namespace)) = true
is_declaration (Some (word keyword.Default)) = true
is_declaration (Some (word keyword.Datatypes)) = true
is_declaration _ = false

unfoldable pub declarations_at : List Lexeme → Reading (List Declaration)
declarations_at tokens = loop_at (λ more. is_declaration (first more)) declaration_at (λ before next. before ++ next ∷ []) [] tokens

-- ---- the body

-- whether the token joins a definition to its name
abbrev pub is_combine : Option Lexeme → Bool
is_combine (Some (mark Equals)) = true
is_combine (Some (mark BarEquals)) = true
is_combine (Some (mark AmpersandEquals)) = true
is_combine _ = false

-- whether items stand here, with no group before the first: a pattern doesn't begin so
abbrev pub begins_items_by : Option Lexeme → List Lexeme → Bool
begins_items_by None rest = true
begins_items_by (Some (word keyword.Start)) rest = true
begins_items_by (Some (word keyword.Div)) rest = true
begins_items_by (Some (word keyword.Include)) rest = true
begins_items_by (Some (Identifier name)) rest = is_combine (first rest) || stands LeftBracket rest
begins_items_by (Some (PrefixedName prefix local)) rest = stands LeftBracket rest
begins_items_by _ rest = false

unfoldable pub begins_items : List Lexeme → Bool
begins_items tokens = begins_items_by (first tokens) (behind tokens)

-- the value, where nothing is left
abbrev pub only_read : {A : Type 0} → A → List Lexeme → Reading A
only_read value [] = read value []
only_read value (token ∷ tokens) = no_reading

abbrev pub ended : {A B : Type 0} → (A → B) → Reading A → Reading B
ended make found = found >>= λ value rest. only_read (make value) rest

unfoldable pub body_at : Scope → ℕ → List Lexeme → Reading WrittenSurface
body_at scope left tokens =
    opening_at tokens >>= λ _ opened.
    opening_at opened >>= λ _ inside.
    if begins_items inside then ended a_grammar (items_at scope left opened) else ended a_pattern (pattern_at scope left opened)
