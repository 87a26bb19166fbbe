-- What reading finds of literals, datatypes and references to files. The program's own functions; no public contract rests on them.
use Rattle.std.specs.Prelude.{ℕ, Bool, true, false, not, ◌&&◌, if◌then◌else◌, List, [], ◌∷◌, ◌++◌, codes, Option, Some, is_some}
use Rattle.rnc_lex.specs.declared.token.Lexeme.{Lexeme}
use Rattle.rnc_lex.specs.declared.token.Lexeme.TheVariants.{Identifier, PrefixedName, Literal, Keyword as word}
use Rattle.rnc_lex.specs.declared.token.Symbol.TheVariants.{LeftBrace, RightBrace, Equals, Tilde}
use Rattle.rnc_lex.specs.declared.token.Keyword.TheVariants as keyword
use Rattle.rnc_lex.specs.Words.{keyword_text}
use Rattle.rnc_parse.specs.declared.surface.Namespace.{Namespace}
use Rattle.rnc_parse.specs.declared.surface.TypeName.{TypeName}
use Rattle.rnc_parse.specs.declared.surface.Param.{Param}
use Rattle.rnc_parse.specs.declared.surface.FileReference.{FileReference}
use Rattle.rnc_parse.specs.Scopes.{Scope, of_names, of_types}
use Rattle.rnc_parse.specs.Parts.{built_in}
use Rattle.rnc_parse.specs.Reading.{Reading, read, no_reading, ◌>>=◌, first, behind, stands, behind_symbol, loop_at, looked_up}
use Rattle.rnc_parse.specs.ReadingAnnotations.{opening_at}

-- ---- literals

abbrev pub literal_by : Option Lexeme → List Lexeme → Reading (List ℕ)
literal_by (Some (Literal text)) rest = read text rest
literal_by _ rest = no_reading

-- one literal
unfoldable pub one_literal_at : List Lexeme → Reading (List ℕ)
one_literal_at tokens = literal_by (first tokens) (behind tokens)

-- literals joined by `~`
unfoldable pub literal_at : List Lexeme → Reading (List ℕ)
literal_at tokens = one_literal_at tokens >>= λ text rest. loop_at (stands Tilde) (λ more. one_literal_at (behind more)) ◌++◌ text rest

abbrev pub is_literal : Option Lexeme → Bool
is_literal (Some (Literal text)) = true
is_literal _ = false

-- ---- names

abbrev pub any_id_by : Option Lexeme → List Lexeme → Reading (List ℕ)
any_id_by (Some (Identifier name)) rest = read name rest
any_id_by (Some (word keyword)) rest = read (keyword_text keyword) rest
any_id_by _ rest = no_reading

unfoldable pub any_id_at : List Lexeme → Reading (List ℕ)
any_id_at tokens = any_id_by (first tokens) (behind tokens)

abbrev pub identifier_by : Option Lexeme → List Lexeme → Reading (List ℕ)
identifier_by (Some (Identifier name)) rest = read name rest
identifier_by _ rest = no_reading

unfoldable pub identifier_at : List Lexeme → Reading (List ℕ)
identifier_at tokens = identifier_by (first tokens) (behind tokens)

unfoldable pub namespace_at : Scope → List ℕ → List Lexeme → Reading Namespace
namespace_at scope prefix rest = looked_up (scope.namespace prefix) (of_names prefix) rest

unfoldable pub library_at : Scope → List ℕ → List Lexeme → Reading (List ℕ)
library_at scope prefix rest = looked_up (scope.library prefix) (of_types prefix) rest

-- ---- datatypes

abbrev pub type_by : Scope → Option Lexeme → List Lexeme → Reading TypeName
type_by scope (Some (PrefixedName prefix local)) rest =
    library_at scope prefix rest >>= λ uri behind. read (record { library = uri; name = local }) behind
type_by scope (Some (word keyword.String)) rest = read (built_in (codes "string")) rest
type_by scope (Some (word keyword.Token)) rest = read (built_in (codes "token")) rest
type_by scope _ rest = no_reading

unfoldable pub type_at : Scope → List Lexeme → Reading TypeName
type_at scope tokens = type_by scope (first tokens) (behind tokens)

abbrev pub is_type : Option Lexeme → Bool
is_type (Some (PrefixedName prefix local)) = true
is_type (Some (word keyword.String)) = true
is_type (Some (word keyword.Token)) = true
is_type _ = false

-- a type with no literal behind it
abbrev pub begins_data : List Lexeme → Bool
begins_data tokens = is_type (first tokens) && not (is_literal (first (behind tokens)))

unfoldable pub param_at : List Lexeme → Reading Param
param_at tokens =
    opening_at tokens >>= λ _ named.
    any_id_at named >>= λ name sign.
    behind_symbol Equals sign >>= λ _ said.
    literal_at said >>= λ text rest.
    read (record { name = name; value = text }) rest

-- whether more stands in front of the brace that closes
abbrev pub goes_on : List Lexeme → Bool
goes_on tokens = is_some (first tokens) && not (stands RightBrace tokens)

unfoldable pub all_params_at : List Lexeme → Reading (List Param)
all_params_at tokens = loop_at goes_on param_at (λ params param. params ++ param ∷ []) [] tokens

unfoldable pub params_at : List Lexeme → Reading (List Param)
params_at tokens =
    if stands LeftBrace tokens
    then (all_params_at (behind tokens) >>= λ params closed.
    behind_symbol RightBrace closed >>= λ _ rest. read params rest)
    else read [] tokens

-- ---- references to files

abbrev pub is_inherit : Option Lexeme → Bool
is_inherit (Some (word keyword.Inherit)) = true
is_inherit _ = false

-- the namespace that is handed on
unfoldable pub handed_on_at : Scope → List Lexeme → Reading Namespace
handed_on_at scope tokens =
    if is_inherit (first tokens)
    then (behind_symbol Equals (behind tokens) >>= λ _ named. any_id_at named >>= λ prefix rest. namespace_at scope prefix rest)
    else read scope.unprefixed tokens

unfoldable pub reference_at : Scope → List Lexeme → Reading FileReference
reference_at scope tokens =
    literal_at tokens >>= λ uri handing.
    handed_on_at scope handing >>= λ ns rest.
    read (record { uri = uri; namespace = ns }) rest
