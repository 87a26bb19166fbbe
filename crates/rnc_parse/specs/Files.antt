-- Schema files: ISO/IEC 19757-2, Annex C.
use Rattle.std.specs.Prelude.{◌≡◌, ℕ, ◌+◌, ◌-◌, ◌≤◌, ◌⊎◌, List, [], ◌∷◌, ◌++◌, map, slice_get, Some, None}
use Rattle.rnc_lex.specs.declared.token.Lexeme.{Lexeme}
use Rattle.rnc_lex.specs.declared.token.Lexeme.TheVariants.{Keyword as word, Symbol as mark}
use Rattle.rnc_lex.specs.declared.token.RncToken.{RncToken}
use Rattle.rnc_lex.specs.declared.token.Symbol.TheVariants.{LeftBrace, RightBrace, LeftParenthesis, RightParenthesis, LeftBracket}
use Rattle.rnc_lex.specs.declared.token.Symbol.TheVariants.{RightBracket, Equals}
use Rattle.rnc_lex.specs.declared.token.Keyword.TheVariants as keyword
use Rattle.rnc_parse.specs.declared.declaration.Declaration.{Declaration}
use Rattle.rnc_parse.specs.declared.declaration.Declaration.TheVariants as declaration
use Rattle.rnc_parse.specs.declared.surface.Namespace.{Namespace}
use Rattle.rnc_parse.specs.declared.surface.Namespace.TheVariants.{Inherited, Uri}
use Rattle.rnc_parse.specs.Written.{WrittenPattern, WrittenItems, WrittenSurface, a_pattern, a_grammar}
use Rattle.rnc_parse.specs.Scopes.{Scope, scope_of, IsDeclaredTwice, AreInOrder, Use, IsUndeclared}
use Rattle.rnc_parse.specs.Annotations.{MayBegin}
use Rattle.rnc_parse.specs.Classes.{IsAnyId}
use Rattle.rnc_parse.specs.Parts.{IsLiteral}
use Rattle.rnc_parse.specs.Grammar.{IsPattern, AreItems}

-- nsUri
pub data IsNamespace : List Lexeme → Namespace → List Lexeme → Type 0 where
  of_uri : {uri : List ℕ} {tokens rest : List Lexeme} → IsLiteral tokens uri rest → IsNamespace tokens (Uri uri) rest
  inherited : {rest : List Lexeme} → IsNamespace (word keyword.Inherit ∷ rest) Inherited rest

-- decl
pub data IsDeclaration : List Lexeme → Declaration → List Lexeme → Type 0 where
  a_namespace_prefix : {token : Lexeme} {prefix : List ℕ} {ns : Namespace} {tokens rest : List Lexeme} →
      IsAnyId token prefix → IsNamespace tokens ns rest →
      IsDeclaration (word keyword.Namespace ∷ token ∷ mark Equals ∷ tokens) (declaration.Namespace prefix ns) rest
  a_default : {ns : Namespace} {tokens rest : List Lexeme} →
      IsNamespace tokens ns rest →
      IsDeclaration (word keyword.Default ∷ word keyword.Namespace ∷ mark Equals ∷ tokens) (declaration.Default None ns) rest
  a_default_prefix : {token : Lexeme} {prefix : List ℕ} {ns : Namespace} {tokens rest : List Lexeme} →
      IsAnyId token prefix → IsNamespace tokens ns rest →
      IsDeclaration (word keyword.Default ∷ word keyword.Namespace ∷ token ∷ mark Equals ∷ tokens)
      (declaration.Default (Some prefix) ns) rest
  a_library_prefix : {token : Lexeme} {prefix uri : List ℕ} {tokens rest : List Lexeme} →
      IsAnyId token prefix → IsLiteral tokens uri rest →
      IsDeclaration (word keyword.Datatypes ∷ token ∷ mark Equals ∷ tokens) (declaration.Datatypes prefix uri) rest

pub data AreDeclarations : List Lexeme → List Declaration → List Lexeme → Type 0 where
  no_declaration : {rest : List Lexeme} → AreDeclarations rest [] rest
  next_declaration : {first : Declaration} {more : List Declaration} {tokens behind rest : List Lexeme} →
      IsDeclaration tokens first behind → AreDeclarations behind more rest → AreDeclarations tokens (first ∷ more) rest

-- what stands behind the declarations: a pattern, or items, and nothing more
pub data IsBody (scope : Scope) : List Lexeme → WrittenSurface → Type 0 where
  pattern_body : {p : WrittenPattern} {tokens inside : List Lexeme} →
      MayBegin tokens inside → IsPattern scope inside p [] → IsBody scope tokens (a_pattern p)
  grammar_body : {items : WrittenItems} {tokens inside : List Lexeme} →
      MayBegin tokens inside → AreItems scope inside items [] → IsBody scope tokens (a_grammar items)

-- the tokens are these declarations and, where prefixes stand for what the scope says, this body
pub record IsFile (scope : Scope) (tokens : List Lexeme) (declarations : List Declaration) (surface : WrittenSurface) : Type 0 where
  pub body : List Lexeme
  pub declared : AreDeclarations tokens declarations body
  pub said : IsBody scope body surface

-- the tokens say this: prefixes stand for what the declarations say, which are in order
pub record Says (tokens : List Lexeme) (surface : WrittenSurface) : Type 0 where
  pub declarations : List Declaration
  pub file : IsFile (scope_of declarations) tokens declarations surface
  pub in_order : AreInOrder declarations

-- ---- why tokens say nothing

-- the tokens are in no reading, whatever prefixes stand for
abbrev pub IsNoFile : List Lexeme → Type 0
IsNoFile tokens =
    (scope : Scope) (declarations : List Declaration) (surface : WrittenSurface) → IsFile scope tokens declarations surface → ⊥

-- some look-ups make the tokens a file with these declarations
pub record IsSomeFile (tokens : List Lexeme) (declarations : List Declaration) : Type 0 where
  pub scope : Scope
  pub surface : WrittenSurface
  pub file : IsFile scope tokens declarations surface

-- the tokens are a file, whose declarations are in order and leave the prefix out, and where it stands for nothing they are in
-- no reading
pub record NeedsPrefix (tokens : List Lexeme) (used : Use) : Type 0 where
  pub declarations : List Declaration
  pub some_file : IsSomeFile tokens declarations
  pub in_order : AreInOrder declarations
  pub undeclared : IsUndeclared (scope_of declarations) used
  pub needed : (scope : Scope) (others : List Declaration) (surface : WrittenSurface) → IsUndeclared scope used →
      IsFile scope tokens others surface → ⊥

-- the tokens are a file, whose declarations declare the prefix twice, or though they may not
pub record DeclaresTwice (tokens : List Lexeme) (prefix : List ℕ) : Type 0 where
  pub declarations : List Declaration
  pub some_file : IsSomeFile tokens declarations
  pub twice : IsDeclaredTwice declarations prefix

-- ---- places

-- tokens without their places
abbrev pub lexemes : List RncToken → List Lexeme
lexemes tokens = map (λ (t : RncToken). t.lexeme) tokens

-- the place is that of some token, or the end
abbrev pub StandsAt : List RncToken → ℕ → ℕ → Type 0
StandsAt tokens end at = (at ≡ end) ⊎ ((i : ℕ) × (token : RncToken) × (slice_get tokens i ≡ Some token) × (at ≡ token.at))

-- ---- brackets

-- how many brackets are open behind the tokens, where so many are open before them; kinds aren't compared
abbrev pub open_behind : ℕ → List Lexeme → ℕ
open_behind before [] = before
open_behind before (mark LeftBrace ∷ tokens) = open_behind (before + 1) tokens
open_behind before (mark LeftParenthesis ∷ tokens) = open_behind (before + 1) tokens
open_behind before (mark LeftBracket ∷ tokens) = open_behind (before + 1) tokens
open_behind before (mark RightBrace ∷ tokens) = open_behind (before - 1) tokens
open_behind before (mark RightParenthesis ∷ tokens) = open_behind (before - 1) tokens
open_behind before (mark RightBracket ∷ tokens) = open_behind (before - 1) tokens
open_behind before (_ ∷ tokens) = open_behind before tokens

-- behind no front of the tokens more than 200 brackets are open
abbrev pub IsShallow : List Lexeme → Type 0
IsShallow tokens = (front rest : List Lexeme) → tokens ≡ front ++ rest → open_behind 0 front ≤ 200

-- the token at the place opens the 201st bracket, the first time that so many are open
pub record IsTooDeepAt (tokens : List RncToken) (at : ℕ) : Type 0 where
  pub front : List RncToken
  pub token : RncToken
  pub rest : List RncToken
  pub tokens_are : tokens ≡ front ++ token ∷ rest
  pub at_is : at ≡ token.at
  pub shallow : IsShallow (lexemes front)
  pub deep : open_behind 0 (lexemes (front ++ token ∷ [])) ≡ 201
