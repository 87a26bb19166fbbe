-- What reading a text answers.
use Rattle.std.specs.Prelude.{ℕ, List, length, Result, Ok, Err}
use Rattle.rnc_lex.specs.declared.fault.LexFault.TheVariants as lex
use Rattle.rnc_lex.specs.Tokens.{Lexes}
use Rattle.rnc_parse.specs.declared.read.ReadFault.{ReadFault}
use Rattle.rnc_parse.specs.declared.read.ReadFault.TheVariants as fault
use Rattle.rnc_parse.specs.declared.surface.Surface.{Surface}
use Rattle.rnc_parse.specs.Views.{surface_of}
use Rattle.rnc_parse.specs.Files.{StandsAt}
use Rattle.rnc_parse.specs.Reads.{Reads, IsTooDeep, IsNoSchema, DeclaresAgain, LeavesOut}

-- the surface that the text is read as, or why it is refused
abbrev pub AnswersText : List ℕ → Result Surface ReadFault → Type 0
AnswersText text (Ok surface) = Reads text (surface_of surface)
AnswersText text (Err (fault.Lex (lex.BadEscape at))) = Lexes text (Err (lex.BadEscape at))
AnswersText text (Err (fault.Lex (lex.BadLiteral at))) = Lexes text (Err (lex.BadLiteral at))
AnswersText text (Err (fault.Lex (lex.BadCharacter at))) = Lexes text (Err (lex.BadCharacter at))
AnswersText text (Err (fault.Lex lex.NoMemory)) = ⊥
AnswersText text (Err (fault.TooDeep at)) = IsTooDeep text at
-- the place is that of a token, or the end of the text
AnswersText text (Err (fault.Syntax at)) = (none : IsNoSchema text) × StandsAt none.tokens (length text) at
AnswersText text (Err (fault.Twice prefix)) = DeclaresAgain text prefix
AnswersText text (Err (fault.UndeclaredPrefix prefix)) = LeavesOut text prefix
AnswersText text (Err fault.NoMemory) = Unit {0}
