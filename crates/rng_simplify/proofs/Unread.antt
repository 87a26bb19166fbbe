-- Why a text isn't read, by what the readers answer.
use Rattle.std.proofs.Common.{ℕ, Bool, true, false, List, Err}
use Rattle.nx_base.specs.declared.cause.Cause.{Cause}
use Rattle.nx_base.specs.declared.cause.Cause.TheVariants as cause
use Rattle.rnc_lex.specs.declared.fault.LexFault.TheVariants as lex
use Rattle.rnc_parse.specs.declared.read.ReadFault.{ReadFault}
use Rattle.rnc_parse.specs.declared.read.ReadFault.TheVariants as read
use Rattle.rnc_parse.specs.Answering as compact
use Rattle.rngx_read.specs.Files.{RefusesAs}
use Rattle.rngx_read.specs.Reads as markup
use Rattle.rngx_read.specs.declared.read.XReadFault.{XReadFault}
use Rattle.rngx_read.specs.declared.read.XReadFault.TheVariants as fault
use Rattle.rng_simplify.specs.LoadedFiles.{IsOfReading, unread_as, unread_markup_as, SaysAs}

-- each answer in the compact syntax has its cause
pub unread_refuses : (text : List ℕ) (fault : ReadFault) → compact.AnswersText text (Err fault) → SaysAs false text (Err (unread_as fault))
unread_refuses text (read.Lex (lex.BadEscape at)) h = ((at, h), tt)
unread_refuses text (read.Lex (lex.BadLiteral at)) h = ((at, h), tt)
unread_refuses text (read.Lex (lex.BadCharacter at)) h = ((at, h), tt)
unread_refuses text (read.Lex lex.NoMemory) h = tt
unread_refuses text (read.TooDeep at) h = ((at, h), tt)
unread_refuses text (read.Syntax at) h = (h.0, tt)
unread_refuses text (read.UndeclaredPrefix prefix) h = ((prefix, h), tt)
unread_refuses text (read.Twice prefix) h = ((prefix, h), tt)
unread_refuses text read.NoMemory h = tt

-- and so has each in the XML syntax
pub unread_markup_refuses : (text : List ℕ) (refusal : XReadFault) → markup.AnswersText text (Err refusal) →
    SaysAs true text (Err (unread_markup_as refusal))
unread_markup_refuses text (fault.BadMarkup at) h = ((at, h), tt)
unread_markup_refuses text (fault.TooDeep at) h = ((at, h), tt)
unread_markup_refuses text (fault.BadForm at) h = (h.0, tt)
unread_markup_refuses text (fault.UndeclaredPrefix prefix) h = ((prefix, h), tt)
unread_markup_refuses text fault.NoMemory h = tt

-- a text is refused for causes of reading alone
pub refused_of_reading : (in_markup : Bool) (text : List ℕ) (why : Cause) → RefusesAs in_markup text why → IsOfReading why
refused_of_reading true text cause.BadMarkup h = tt
refused_of_reading true text cause.TooDeep h = tt
refused_of_reading true text cause.BadForm h = tt
refused_of_reading true text cause.UndeclaredPrefix h = tt
refused_of_reading true text why h = absurd h
refused_of_reading false text cause.BadEscape h = tt
refused_of_reading false text cause.BadLiteral h = tt
refused_of_reading false text cause.BadCharacter h = tt
refused_of_reading false text cause.Syntax h = tt
refused_of_reading false text cause.TooDeep h = tt
refused_of_reading false text cause.UndeclaredPrefix h = tt
refused_of_reading false text cause.Twice h = tt
refused_of_reading false text why h = absurd h
