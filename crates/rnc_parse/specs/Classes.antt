-- Name classes: ISO/IEC 19757-2, Annex C.
use Rattle.std.specs.Prelude.{◌≡◌, ℕ, List, [], ◌∷◌, Some}
use Rattle.rnc_lex.specs.declared.token.Lexeme.{Lexeme}
use Rattle.rnc_lex.specs.declared.token.Lexeme.TheVariants.{Identifier, PrefixedName, NamespaceWildcard, Keyword as word, Symbol as mark}
use Rattle.rnc_lex.specs.declared.token.Symbol.TheVariants.{LeftParenthesis, RightParenthesis, Bar, Star, Minus}
use Rattle.rnc_lex.specs.declared.token.Keyword.{Keyword}
use Rattle.rnc_lex.specs.Words.{keyword_text}
use Rattle.rnc_parse.specs.declared.surface.Namespace.{Namespace}
use Rattle.rnc_parse.specs.Written.{WrittenClass, every_name, names_in, the_name, either, without, joined}
use Rattle.rnc_parse.specs.Scopes.{Scope}
use Rattle.rnc_parse.specs.Annotations.{MayBegin, Follow}

-- anyId: an identifier, or a keyword as a name
pub data IsAnyId : Lexeme → List ℕ → Type 0 where
  an_identifier : {name : List ℕ} → IsAnyId (Identifier name) name
  a_keyword : {keyword : Keyword} → IsAnyId (word keyword) (keyword_text keyword)

-- names of a namespace, or all names
pub data IsWildcard (scope : Scope) : Lexeme → WrittenClass → Type 0 where
  all_of_namespace : {prefix : List ℕ} {ns : Namespace} →
      scope.namespace prefix ≡ Some ns → IsWildcard scope (NamespaceWildcard prefix) (names_in ns)
  all_names : IsWildcard scope (mark Star) every_name

-- these tokens are this class, and this rest. A name without a prefix is in the namespace `unprefixed`
mutual
  -- nameClass
  pub data IsClass (scope : Scope) (unprefixed : Namespace) : List Lexeme → WrittenClass → List Lexeme → Type 0 where
    one_class : {class : WrittenClass} {tokens rest : List Lexeme} →
        IsAnnotatedClass scope unprefixed tokens class rest → IsClass scope unprefixed tokens class rest
    several_classes : {class all : WrittenClass} {classes : List WrittenClass} {tokens behind rest : List Lexeme} →
        IsAnnotatedClass scope unprefixed tokens class behind → AreMoreClasses scope unprefixed behind classes rest →
        all ≡ joined either class classes → IsClass scope unprefixed tokens all rest
    -- ncExcept; what may follow it may follow its last class
    except_class : {wildcard : Lexeme} {class except : WrittenClass} {tokens behind rest : List Lexeme} →
        MayBegin tokens (wildcard ∷ mark Minus ∷ behind) → IsWildcard scope wildcard class →
        IsAnnotatedClass scope unprefixed behind except rest → IsClass scope unprefixed tokens (without class except) rest

  -- one or more times `|` and ncOne
  pub data AreMoreClasses (scope : Scope) (unprefixed : Namespace) : List Lexeme → List WrittenClass → List Lexeme → Type 0 where
    last_class : {class : WrittenClass} {tokens rest : List Lexeme} →
        IsAnnotatedClass scope unprefixed tokens class rest → AreMoreClasses scope unprefixed (mark Bar ∷ tokens) (class ∷ []) rest
    next_class : {class : WrittenClass} {classes : List WrittenClass} {tokens behind rest : List Lexeme} →
        IsAnnotatedClass scope unprefixed tokens class behind → AreMoreClasses scope unprefixed behind classes rest →
        AreMoreClasses scope unprefixed (mark Bar ∷ tokens) (class ∷ classes) rest

  -- ncOne with the annotations around it
  pub data IsAnnotatedClass (scope : Scope) (unprefixed : Namespace) : List Lexeme → WrittenClass → List Lexeme → Type 0 where
    annotated_class : {class : WrittenClass} {tokens inside behind rest : List Lexeme} →
        MayBegin tokens inside → IsOneClass scope unprefixed inside class behind → Follow behind rest →
        IsAnnotatedClass scope unprefixed tokens class rest

  -- ncOne
  pub data IsOneClass (scope : Scope) (unprefixed : Namespace) : List Lexeme → WrittenClass → List Lexeme → Type 0 where
    unprefixed_name : {token : Lexeme} {name : List ℕ} {rest : List Lexeme} →
        IsAnyId token name → IsOneClass scope unprefixed (token ∷ rest) (the_name unprefixed name) rest
    prefixed_name : {prefix local : List ℕ} {ns : Namespace} {rest : List Lexeme} →
        scope.namespace prefix ≡ Some ns → IsOneClass scope unprefixed (PrefixedName prefix local ∷ rest) (the_name ns local) rest
    wildcard : {token : Lexeme} {class : WrittenClass} {rest : List Lexeme} →
        IsWildcard scope token class → IsOneClass scope unprefixed (token ∷ rest) class rest
    parenthesized_class : {class : WrittenClass} {tokens rest : List Lexeme} →
        IsClass scope unprefixed tokens class (mark RightParenthesis ∷ rest) →
        IsOneClass scope unprefixed (mark LeftParenthesis ∷ tokens) class rest
