-- Where reading a schema file stops.
use Rattle.std.specs.Prelude.{◌≡◌, ◌⊎◌, ℕ, true, false, List, [], Option, Some, None, Err, option_map}
use Rattle.nx_base.specs.declared.cause.Cause.{Cause}
use Rattle.nx_base.specs.declared.cause.Cause.TheVariants as cause
use Rattle.rnc_lex.specs.declared.fault.LexFault.TheVariants as lex
use Rattle.rnc_parse.specs.Answering as compact
use Rattle.rnc_parse.specs.declared.read.ReadFault.{ReadFault}
use Rattle.rnc_parse.specs.declared.read.ReadFault.TheVariants as fault
use Rattle.rngx_read.specs.Files.{is_markup}
use Rattle.rngx_read.specs.Reads as markup
use Rattle.rngx_read.specs.declared.read.XReadFault.{XReadFault}
use Rattle.rngx_read.specs.declared.read.XReadFault.TheVariants as markup_fault
use Rattle.nx_check.specs.declared.stop.Stop.{Stop}

-- at a byte offset
abbrev pub at_place : Cause → ℕ → Stop
at_place why at = record { cause = why; at = Some at; about = [] }

-- for a prefix
abbrev pub about : Cause → List ℕ → Stop
about why prefix = record { cause = why; at = None; about = prefix }

-- what the reader of the compact syntax tells
abbrev pub compact_stop : ReadFault → Option Stop
compact_stop (fault.Lex (lex.BadEscape at)) = Some (at_place cause.BadEscape at)
compact_stop (fault.Lex (lex.BadLiteral at)) = Some (at_place cause.BadLiteral at)
compact_stop (fault.Lex (lex.BadCharacter at)) = Some (at_place cause.BadCharacter at)
compact_stop (fault.Lex lex.NoMemory) = None
compact_stop (fault.TooDeep at) = Some (at_place cause.TooDeep at)
compact_stop (fault.Syntax at) = Some (at_place cause.Syntax at)
compact_stop (fault.UndeclaredPrefix prefix) = Some (about cause.UndeclaredPrefix prefix)
compact_stop (fault.Twice prefix) = Some (about cause.Twice prefix)
compact_stop fault.NoMemory = None

-- what the reader of the XML syntax tells
abbrev pub markup_stop : XReadFault → Option Stop
markup_stop (markup_fault.BadMarkup at) = Some (at_place cause.BadMarkup at)
markup_stop (markup_fault.TooDeep at) = Some (at_place cause.TooDeep at)
markup_stop (markup_fault.BadForm at) = Some (at_place cause.BadForm at)
markup_stop (markup_fault.UndeclaredPrefix prefix) = Some (about cause.UndeclaredPrefix prefix)
markup_stop markup_fault.NoMemory = None

-- the text of a schema file says nothing, in the syntax that it is written in, for this cause, and there
abbrev pub StopsReading : List ℕ → Stop → Type 0
StopsReading text stop =
    ((is_markup text ≡ false) × ((told : ReadFault) × compact.AnswersText text (Err told) × (compact_stop told ≡ Some stop)))
    ⊎ ((is_markup text ≡ true) × ((told : XReadFault) × markup.AnswersText text (Err told) × (markup_stop told ≡ Some stop)))
