-- What the parts of reading answer: the clauses of functions that aren't public.
use Rattle.std.specs.Prelude.{◌≡◌, ℕ, List, [], Option, Some, None, Result, Ok, Err}
use Rattle.rnc_lex.specs.declared.token.Lexeme.{Lexeme}
use Rattle.rnc_lex.specs.declared.token.RncToken.{RncToken}
use Rattle.rnc_parse.specs.declared.declaration.Declaration.{Declaration}
use Rattle.rnc_parse.specs.declared.read.ReadFault.{ReadFault}
use Rattle.rnc_parse.specs.declared.read.ReadFault.TheVariants as fault
use Rattle.rnc_parse.specs.declared.scope.Clash.{Clash}
use Rattle.rnc_parse.specs.declared.scope.Clash.TheVariants as clash
use Rattle.rnc_parse.specs.declared.stop.Stop.{Stop}
use Rattle.rnc_parse.specs.declared.stop.Stop.TheVariants as stop
use Rattle.rnc_parse.specs.declared.surface.Surface.{Surface}
use Rattle.nx_base.specs.declared.memory.NoMemory.{NoMemory}
use Rattle.rnc_parse.specs.declared.surface.Namespace.TheVariants.{Inherited}
use Rattle.rnc_parse.specs.Scopes.{Scope, scope_of, AreInOrder, Use, prefix_of}
use Rattle.rnc_parse.specs.Views.{surface_of}
use Rattle.rnc_parse.specs.Written.{WrittenSurface}
use Rattle.rnc_parse.specs.Files.{lexemes, StandsAt, Says, IsNoFile, NeedsPrefix, DeclaresTwice, IsShallow, IsTooDeepAt}
use Rattle.rnc_parse.specs.Reading.{read, no_reading}
use Rattle.rnc_parse.specs.ReadingFiles.{declarations_at, body_at}

-- ---- tokens

-- what reading answers about tokens in which no brackets are too deep
abbrev pub Answers : List RncToken → ℕ → Result Surface ReadFault → Type 0
Answers tokens end (Ok surface) = Says (lexemes tokens) (surface_of surface)
Answers tokens end (Err (fault.Lex lex)) = ⊥
Answers tokens end (Err (fault.TooDeep at)) = ⊥
Answers tokens end (Err (fault.Syntax at)) = IsNoFile (lexemes tokens) × StandsAt tokens end at
Answers tokens end (Err (fault.UndeclaredPrefix prefix)) = (used : Use) × (prefix_of used ≡ prefix) × NeedsPrefix (lexemes tokens) used
Answers tokens end (Err (fault.Twice prefix)) = DeclaresTwice (lexemes tokens) prefix
Answers tokens end (Err fault.NoMemory) = Unit {0}

-- and about any tokens: too many brackets come first
abbrev pub AnswersTokens : List RncToken → ℕ → Result Surface ReadFault → Type 0
AnswersTokens tokens end (Err (fault.TooDeep at)) = IsTooDeepAt tokens at
AnswersTokens tokens end (Err fault.NoMemory) = Unit {0}
AnswersTokens tokens end answer = IsShallow (lexemes tokens) × Answers tokens end answer

-- ---- the parts of reading

-- look-ups under which every prefix stands for something
abbrev pub every_prefix : Scope
every_prefix = record { namespace = λ prefix. Some Inherited; unprefixed = Inherited; library = λ prefix. Some [] }

-- the body of tokens behind their declarations, which are in order, and what they say
pub record IsBehindDeclarations (tokens : List Lexeme) (scope : Scope) (body : List Lexeme) : Type 0 where
  pub declarations : List Declaration
  pub are : declarations_at tokens ≡ read declarations body
  pub in_order : AreInOrder declarations
  pub scope_is : scope ≡ scope_of declarations

-- the body is in some reading, or, with a number of tokens left, in none
abbrev pub IsBodyOrNot : List Lexeme → Option ℕ → Type 0
IsBodyOrNot body None = (surface : WrittenSurface) × (rest : List Lexeme) × (body_at every_prefix 200 body ≡ read surface rest)
IsBodyOrNot body (Some left) = body_at every_prefix 200 body ≡ no_reading

-- what is answered for a prefix that stands for nothing
abbrev pub RefusesPrefix : List RncToken → ℕ → List ℕ → List Lexeme → Result Surface ReadFault → Type 0
RefusesPrefix tokens end prefix body (Ok surface) = ⊥
RefusesPrefix tokens end prefix body (Err (fault.Lex lex)) = ⊥
RefusesPrefix tokens end prefix body (Err (fault.TooDeep at)) = ⊥
RefusesPrefix tokens end prefix body (Err (fault.Syntax at)) = (body_at every_prefix 200 body ≡ no_reading) × StandsAt tokens end at
RefusesPrefix tokens end prefix body (Err (fault.UndeclaredPrefix named)) =
    (named ≡ prefix) × (surface : WrittenSurface) × (rest : List Lexeme) × (body_at every_prefix 200 body ≡ read surface rest)
RefusesPrefix tokens end prefix body (Err (fault.Twice named)) = ⊥
RefusesPrefix tokens end prefix body (Err fault.NoMemory) = Unit {0}

-- the number of tokens left, unless memory ran out
abbrev pub Leaves : Stop → ℕ → Result (Option ℕ) NoMemory → Type 0
Leaves stop.NoMemory left (Ok answer) = ⊥
Leaves stop.NoMemory left (Err e) = Unit {0}
Leaves stop.Syntax left (Ok answer) = answer ≡ Some left
Leaves stop.Syntax left (Err e) = ⊥
Leaves (stop.NamePrefix prefix) left (Ok answer) = answer ≡ Some left
Leaves (stop.NamePrefix prefix) left (Err e) = ⊥
Leaves (stop.TypePrefix prefix) left (Ok answer) = answer ≡ Some left
Leaves (stop.TypePrefix prefix) left (Err e) = ⊥

-- a refusal for want of memory
abbrev pub WantsMemory : Result Surface ReadFault → Type 0
WantsMemory answer = answer ≡ Err fault.NoMemory

-- a refusal at a place of the tokens
abbrev pub RefusesAt : List RncToken → ℕ → Result Surface ReadFault → Type 0
RefusesAt tokens end answer = (at : ℕ) × (answer ≡ Err (fault.Syntax at)) × StandsAt tokens end at

-- what is answered where the body stops
abbrev pub RefusesBody : List RncToken → ℕ → Stop → List Lexeme → Result Surface ReadFault → Type 0
RefusesBody tokens end stop.NoMemory body answer = WantsMemory answer
RefusesBody tokens end stop.Syntax body answer = RefusesAt tokens end answer
RefusesBody tokens end (stop.NamePrefix prefix) body answer = RefusesPrefix tokens end prefix body answer
RefusesBody tokens end (stop.TypePrefix prefix) body answer = RefusesPrefix tokens end prefix body answer

-- where declarations do
abbrev pub RefusesDeclarations : List RncToken → ℕ → Stop → Result Surface ReadFault → Type 0
RefusesDeclarations tokens end stop.NoMemory answer = WantsMemory answer
RefusesDeclarations tokens end stop.Syntax answer = RefusesAt tokens end answer
RefusesDeclarations tokens end (stop.NamePrefix prefix) answer = RefusesAt tokens end answer
RefusesDeclarations tokens end (stop.TypePrefix prefix) answer = RefusesAt tokens end answer

-- where declarations clash
abbrev pub RefusesTwice : List RncToken → ℕ → List ℕ → List Lexeme → Result Surface ReadFault → Type 0
RefusesTwice tokens end prefix body (Ok surface) = ⊥
RefusesTwice tokens end prefix body (Err (fault.Lex lex)) = ⊥
RefusesTwice tokens end prefix body (Err (fault.TooDeep at)) = ⊥
RefusesTwice tokens end prefix body (Err (fault.Syntax at)) = (body_at every_prefix 200 body ≡ no_reading) × StandsAt tokens end at
RefusesTwice tokens end prefix body (Err (fault.UndeclaredPrefix named)) = ⊥
RefusesTwice tokens end prefix body (Err (fault.Twice named)) =
    (named ≡ prefix) × (surface : WrittenSurface) × (rest : List Lexeme) × (body_at every_prefix 200 body ≡ read surface rest)
RefusesTwice tokens end prefix body (Err fault.NoMemory) = Unit {0}

abbrev pub RefusesClash : List RncToken → ℕ → Clash → List Lexeme → Result Surface ReadFault → Type 0
RefusesClash tokens end clash.NoMemory body answer = WantsMemory answer
RefusesClash tokens end (clash.Twice prefix) body answer = RefusesTwice tokens end prefix body answer
