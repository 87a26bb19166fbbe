-- The text that a reply prints.
use Rattle.std.specs.Prelude.{ℕ, List, [], ◌++◌, codes, Option, Some, None}
use Rattle.std.specs.Fmt.{decimal}
use Rattle.nx_base.specs.declared.cause.Cause.{Cause}
use Rattle.nx_script.specs.Causes.{cause_name}
use Rattle.nx_base.specs.declared.locate_fault.LocateFault.{LocateFault}
use Rattle.nx_base.specs.declared.locate_fault.LocateFault.TheVariants as rules
use Rattle.nx_script.specs.FaultLines.{errors_text, view_text}
use Rattle.nx_script.specs.OfferLines.{offers_text}
use Rattle.nx_script.specs.declared.reply.Reply.{Reply}
use Rattle.nx_script.specs.declared.reply.Reply.TheVariants.{Silent, Printed, Errors, Frontier, Taken, Located, Offered, Caret, Stay}
use Rattle.nx_script.specs.declared.reply.Reply.TheVariants.{Position, Shown, Refused}
use Rattle.nx_script.specs.declared.reply.Refusal.{Refusal}
use Rattle.nx_script.specs.declared.reply.Refusal.TheVariants.{BadCommand, BadPosition, BadUri, Absent, NotUtf8, Unreadable, Failed}
use Rattle.nx_script.specs.declared.reply.Refusal.TheVariants.{BadRules, NoView, NoMemory}

-- the number that is no place, and the text's length
abbrev pub bad_position_text : ℕ → ℕ → List ℕ
bad_position_text at len = codes "BadPosition " ++ decimal at ++ codes " " ++ decimal len

-- the URI of a file that is no text, and the byte offset at which it stops being one
abbrev pub not_utf8_text : List ℕ → ℕ → List ℕ
not_utf8_text uri at = codes "NotUtf8 " ++ uri ++ codes " " ++ decimal at

-- the cause for which a schema can't be used
abbrev pub unreadable_text : Cause → List ℕ
unreadable_text why = codes "Unreadable " ++ cause_name why

-- what is wrong with a rules file; what isn't wrong with one has refusals of its own, which print alike
abbrev pub rules_text : LocateFault → List ℕ
rules_text (rules.RulesAbsent uri) = codes "BadRules Absent " ++ uri
rules_text (rules.RulesNotUtf8 uri at) = codes "BadRules NotUtf8 " ++ uri
rules_text (rules.BadRules uri) = codes "BadRules Malformed " ++ uri
rules_text (rules.RulesLoop uri) = codes "BadRules Loop " ++ uri
rules_text (rules.BadUri uri) = codes "BadUri"
rules_text rules.Failed = codes "Failed"
rules_text rules.NoMemory = codes "NoMemory"

-- the number of no view
abbrev pub no_view_text : ℕ → List ℕ
no_view_text index = codes "NoView " ++ decimal index

-- why a command was refused
abbrev pub refusal_text : Refusal → List ℕ
refusal_text BadCommand = codes "BadCommand"
refusal_text (BadPosition at len) = bad_position_text at len
refusal_text BadUri = codes "BadUri"
refusal_text (Absent uri) = codes "Absent " ++ uri
refusal_text (NotUtf8 uri at) = not_utf8_text uri at
refusal_text (Unreadable why) = unreadable_text why
refusal_text (BadRules why) = rules_text why
refusal_text (NoView index) = no_view_text index
refusal_text Failed = codes "Failed"
refusal_text NoMemory = codes "NoMemory"

-- the line that tells that the command of this line of the script was refused
abbrev pub refused_text : ℕ → Refusal → List ℕ
refused_text line refusal = codes "line " ++ decimal line ++ codes " refused: " ++ refusal_text refusal ++ codes "\n"

-- how far the text is read, of how many bytes
abbrev pub frontier_text : ℕ → ℕ → List ℕ
frontier_text at len = codes "frontier " ++ decimal at ++ codes " of " ++ decimal len ++ codes "\n"

-- how many tokens were taken
abbrev pub taken_text : ℕ → List ℕ
taken_text taken = codes "taken " ++ decimal taken ++ codes "\n"

-- which schema was located, or none
abbrev pub located_text : Option (List ℕ) → List ℕ
located_text (Some uri) = codes "schema " ++ uri ++ codes "\n"
located_text None = codes "schema none\n"

-- where the caret is
abbrev pub caret_text : ℕ → List ℕ
caret_text at = codes "caret " ++ decimal at ++ codes "\n"

-- the caret's line and column
abbrev pub position_text : ℕ → ℕ → List ℕ
position_text line column = codes "line " ++ decimal line ++ codes " column " ++ decimal column ++ codes "\n"

-- what the reply to this line of the script prints
abbrev pub reply_text : ℕ → Reply → List ℕ
reply_text line Silent = []
reply_text line (Printed text) = text ++ codes "\n"
reply_text line (Errors faults) = errors_text faults
reply_text line (Frontier at len) = frontier_text at len
reply_text line (Taken taken) = taken_text taken
reply_text line (Located uri) = located_text uri
reply_text line (Offered offers) = offers_text offers
reply_text line (Caret at) = caret_text at
reply_text line Stay = codes "stay\n"
reply_text line (Position row column) = position_text row column
reply_text line (Shown index faults) = view_text index faults
reply_text line (Refused refusal) = refused_text line refusal
