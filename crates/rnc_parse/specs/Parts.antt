-- Literals, datatypes and references to files: ISO/IEC 19757-2, Annex C.
use Rattle.std.specs.Prelude.{◌≡◌, ℕ, List, [], ◌∷◌, ◌++◌, codes, Some}
use Rattle.rnc_lex.specs.declared.token.Lexeme.{Lexeme}
use Rattle.rnc_lex.specs.declared.token.Lexeme.TheVariants.{PrefixedName, Literal, Keyword as word, Symbol as mark}
use Rattle.rnc_lex.specs.declared.token.Symbol.TheVariants.{LeftBrace, RightBrace, Equals, Tilde}
use Rattle.rnc_lex.specs.declared.token.Keyword.TheVariants as keyword
use Rattle.rnc_parse.specs.declared.surface.Namespace.{Namespace}
use Rattle.rnc_parse.specs.declared.surface.TypeName.{TypeName}
use Rattle.rnc_parse.specs.declared.surface.Param.{Param}
use Rattle.rnc_parse.specs.declared.surface.FileReference.{FileReference}
use Rattle.rnc_parse.specs.Scopes.{Scope}
use Rattle.rnc_parse.specs.Annotations.{MayBegin}
use Rattle.rnc_parse.specs.Classes.{IsAnyId}

-- literals joined by `~`
pub data IsLiteral : List Lexeme → List ℕ → List Lexeme → Type 0 where
  one_literal : {text : List ℕ} {rest : List Lexeme} → IsLiteral (Literal text ∷ rest) text rest
  joined_literals : {text more all : List ℕ} {tokens rest : List Lexeme} →
      IsLiteral tokens more rest → all ≡ text ++ more → IsLiteral (Literal text ∷ mark Tilde ∷ tokens) all rest

-- a type of the built-in library
abbrev pub built_in : List ℕ → TypeName
built_in name = record { library = []; name = name }

-- type
pub data IsType (scope : Scope) : Lexeme → TypeName → Type 0 where
  library_type : {prefix local uri : List ℕ} →
      scope.library prefix ≡ Some uri → IsType scope (PrefixedName prefix local) (record { library = uri; name = local })
  string_type : IsType scope (word keyword.String) (built_in (codes "string"))
  token_type : IsType scope (word keyword.Token) (built_in (codes "token"))

-- params, one after another, each with an annotation before it or none
pub data AreParams : List Lexeme → List Param → List Lexeme → Type 0 where
  no_param : {rest : List Lexeme} → AreParams rest [] rest
  param : {token : Lexeme} {name text : List ℕ} {params : List Param} {tokens inside behind rest : List Lexeme} →
      MayBegin tokens (token ∷ mark Equals ∷ inside) → IsAnyId token name → IsLiteral inside text behind → AreParams behind params rest →
      AreParams tokens (record { name = name; value = text } ∷ params) rest

-- the params of a type in braces, or none
pub data MayHaveParams : List Lexeme → List Param → List Lexeme → Type 0 where
  without_params : {rest : List Lexeme} → MayHaveParams rest [] rest
  with_params : {params : List Param} {tokens rest : List Lexeme} →
      AreParams tokens params (mark RightBrace ∷ rest) → MayHaveParams (mark LeftBrace ∷ tokens) params rest

-- a URI, and the namespace that is handed on: the default, or that of the prefix behind `inherit =`
pub data IsReference (scope : Scope) : List Lexeme → FileReference → List Lexeme → Type 0 where
  default_handed_on : {uri : List ℕ} {tokens rest : List Lexeme} →
      IsLiteral tokens uri rest → IsReference scope tokens (record { uri = uri; namespace = scope.unprefixed }) rest
  prefix_handed_on : {token : Lexeme} {uri prefix : List ℕ} {ns : Namespace} {tokens rest : List Lexeme} →
      IsLiteral tokens uri (word keyword.Inherit ∷ mark Equals ∷ token ∷ rest) → IsAnyId token prefix → scope.namespace prefix ≡ Some ns →
      IsReference scope tokens (record { uri = uri; namespace = ns }) rest
