-- What the text of a schema file says, and why a text says nothing: ISO/IEC 19757-2, Annex C. The tokens of a text are defined
-- in rnc_lex, what tokens say in Files.
use Rattle.std.specs.Prelude.{◌≡◌, ℕ, List, Ok, Err}
use Rattle.nx_base.specs.declared.cause.Cause.{Cause}
use Rattle.nx_base.specs.declared.cause.Cause.TheVariants as cause
use Rattle.rnc_lex.specs.declared.fault.LexFault.TheVariants as lex
use Rattle.rnc_lex.specs.declared.token.RncToken.{RncToken}
use Rattle.rnc_lex.specs.Tokens.{Lexes}
use Rattle.rnc_parse.specs.Scopes.{Use, prefix_of}
use Rattle.rnc_parse.specs.Written.{WrittenSurface}
use Rattle.rnc_parse.specs.Files.{lexemes, Says, IsNoFile, NeedsPrefix, DeclaresTwice, IsShallow, IsTooDeepAt}

-- the text is tokens, among which at most 200 brackets are open at once, and the tokens say this
pub record Reads (text : List ℕ) (surface : WrittenSurface) : Type 0 where
  pub tokens : List RncToken
  pub lexed : Lexes text (Ok tokens)
  pub shallow : IsShallow (lexemes tokens)
  pub says : Says (lexemes tokens) surface

-- ---- why a text says nothing; one of these at most holds of a text

-- the 201st of the brackets that are open at once stands at the place
pub record IsTooDeep (text : List ℕ) (at : ℕ) : Type 0 where
  pub tokens : List RncToken
  pub lexed : Lexes text (Ok tokens)
  pub deep : IsTooDeepAt tokens at

-- the tokens are in no reading, whatever prefixes stand for
pub record IsNoSchema (text : List ℕ) : Type 0 where
  pub tokens : List RncToken
  pub lexed : Lexes text (Ok tokens)
  pub shallow : IsShallow (lexemes tokens)
  pub no_file : IsNoFile (lexemes tokens)

-- the declarations bind the prefix twice, or as it may not be bound; it is empty for the default namespace
pub record DeclaresAgain (text prefix : List ℕ) : Type 0 where
  pub tokens : List RncToken
  pub lexed : Lexes text (Ok tokens)
  pub shallow : IsShallow (lexemes tokens)
  pub twice : DeclaresTwice (lexemes tokens) prefix

-- the prefix of a name, of a type or behind `inherit =` is left out of the declarations
pub record LeavesOut (text prefix : List ℕ) : Type 0 where
  pub tokens : List RncToken
  pub lexed : Lexes text (Ok tokens)
  pub shallow : IsShallow (lexemes tokens)
  pub used : Use
  pub prefix_is : prefix_of used ≡ prefix
  pub needed : NeedsPrefix (lexemes tokens) used

-- the text is refused for this cause, at some place or for some prefix; other causes don't concern the reading of one text
abbrev pub Refuses : List ℕ → Cause → Type 0
Refuses text cause.BadEscape = (at : ℕ) × Lexes text (Err (lex.BadEscape at))
Refuses text cause.BadLiteral = (at : ℕ) × Lexes text (Err (lex.BadLiteral at))
Refuses text cause.BadCharacter = (at : ℕ) × Lexes text (Err (lex.BadCharacter at))
Refuses text cause.TooDeep = (at : ℕ) × IsTooDeep text at
Refuses text cause.Syntax = IsNoSchema text
Refuses text cause.Twice = (prefix : List ℕ) × DeclaresAgain text prefix
Refuses text cause.UndeclaredPrefix = (prefix : List ℕ) × LeavesOut text prefix
Refuses text _ = ⊥
