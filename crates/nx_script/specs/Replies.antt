-- What a command that isn't done answers, and replies of which the texts are UTF-8.
use Rattle.std.specs.Prelude.{ℕ, List, Option, Some, None, Result, Ok, Err}
use Rattle.std.specs.List.{AllByRecursion}
use Rattle.std.specs.Str.{IsUtf8}
use Rattle.nx_script.specs.declared.reply.Reply.{Reply}
use Rattle.nx_script.specs.declared.reply.Reply.TheVariants.{Silent, Printed, Errors, Frontier, Taken, Located, Offered, Caret, Stay}
use Rattle.nx_script.specs.declared.reply.Reply.TheVariants.{Position, Shown, Refused}
use Rattle.nx_script.specs.declared.reply.Refusal.{Refusal}
use Rattle.nx_script.specs.declared.reply.Refusal.TheVariants.{BadCommand, BadPosition, BadUri, Absent, NotUtf8, Unreadable, Failed}
use Rattle.nx_script.specs.declared.reply.Refusal.TheVariants.{BadRules, NoView, NoMemory}
use Rattle.nx_base.specs.declared.fault.Fault.{Fault}
use Rattle.nx_base.specs.declared.locate_fault.LocateFault.{LocateFault}
use Rattle.nx_base.specs.declared.locate_fault.LocateFault.TheVariants as rules
use Rattle.nx_base.specs.declared.offer.Offer.{Offer}
use Rattle.nx_base.specs.declared.offer.Offer.TheVariants as offer
use Rattle.nx_base.specs.declared.offer.Offers.{Offers}
use Rattle.nx_base.specs.declared.offer.Offers.TheVariants as offered
use Rattle.nx_host.specs.declared.files.FileFault.{FileFault}
use Rattle.nx_host.specs.declared.files.FileFault.TheVariants as file_fault
use Rattle.nx_host.specs.declared.uri.UriFault.{UriFault}
use Rattle.nx_host.specs.declared.uri.UriFault.TheVariants as uri_fault
use Rattle.nx_script.specs.Printing.{reply_text}

-- the reply that an answer comes to
abbrev pub reply_of : Result Reply Refusal → Reply
reply_of (Ok answer) = answer
reply_of (Err cause) = Refused cause

-- why a command is refused whose URI can't be had
abbrev pub refusal_of_uri : UriFault → Refusal
refusal_of_uri uri_fault.Bad = BadUri
refusal_of_uri uri_fault.NoMemory = NoMemory

-- why a command is refused that the files refuse
abbrev pub refusal_of_files : FileFault → Refusal
refusal_of_files file_fault.Failed = Failed
refusal_of_files file_fault.NoMemory = NoMemory

-- why a command is refused that finds no schema by the rules
abbrev pub refusal_of_rules : LocateFault → Refusal
refusal_of_rules (rules.RulesAbsent uri) = BadRules (rules.RulesAbsent uri)
refusal_of_rules (rules.RulesNotUtf8 uri at) = BadRules (rules.RulesNotUtf8 uri at)
refusal_of_rules (rules.BadRules uri) = BadRules (rules.BadRules uri)
refusal_of_rules (rules.RulesLoop uri) = BadRules (rules.RulesLoop uri)
refusal_of_rules (rules.BadUri text) = BadUri
refusal_of_rules rules.Failed = Failed
refusal_of_rules rules.NoMemory = NoMemory

-- the fault is one of a rules file, and its texts are UTF-8
abbrev pub RulesFaultIsText : LocateFault → Type 0
RulesFaultIsText (rules.RulesAbsent uri) = IsUtf8 uri
RulesFaultIsText (rules.RulesNotUtf8 uri at) = IsUtf8 uri
RulesFaultIsText (rules.BadRules uri) = IsUtf8 uri
RulesFaultIsText (rules.RulesLoop uri) = IsUtf8 uri
RulesFaultIsText (rules.BadUri text) = ⊥
RulesFaultIsText rules.Failed = ⊥
RulesFaultIsText rules.NoMemory = ⊥

-- the texts that a refusal holds are UTF-8, and what it tells of rules is a fault of theirs
abbrev pub RefusalIsText : Refusal → Type 0
RefusalIsText BadCommand = Unit {0}
RefusalIsText (BadPosition at len) = Unit {0}
RefusalIsText BadUri = Unit {0}
RefusalIsText (Absent uri) = IsUtf8 uri
RefusalIsText (NotUtf8 uri at) = IsUtf8 uri
RefusalIsText (Unreadable why) = Unit {0}
RefusalIsText (BadRules why) = RulesFaultIsText why
RefusalIsText (NoView index) = Unit {0}
RefusalIsText Failed = Unit {0}
RefusalIsText NoMemory = Unit {0}

abbrev pub FaultsAreText : List Fault → Type 0
FaultsAreText faults = AllByRecursion (λ (fault : Fault). IsUtf8 fault.detail) faults

abbrev pub LocatedIsText : Option (List ℕ) → Type 0
LocatedIsText (Some uri) = IsUtf8 uri
LocatedIsText None = Unit {0}

abbrev pub OfferIsText : Offer → Type 0
OfferIsText (offer.Name name) = IsUtf8 name.ns × IsUtf8 name.local
OfferIsText (offer.AnyIn ns) = IsUtf8 ns
OfferIsText offer.AnyElse = Unit {0}
OfferIsText (offer.Value literal) = IsUtf8 literal
OfferIsText (offer.End written) = IsUtf8 written

abbrev pub OffersAreText : Offers → Type 0
OffersAreText offered.Nowhere = Unit {0}
OffersAreText (offered.List offers) = AllByRecursion OfferIsText offers

-- the texts that the reply holds, and the details of its faults
abbrev pub ReplyIsText : Reply → Type 0
ReplyIsText Silent = Unit {0}
ReplyIsText (Printed text) = IsUtf8 text
ReplyIsText (Errors faults) = FaultsAreText faults
ReplyIsText (Frontier at len) = Unit {0}
ReplyIsText (Taken taken) = Unit {0}
ReplyIsText (Located uri) = LocatedIsText uri
ReplyIsText (Offered offers) = OffersAreText offers
ReplyIsText (Caret at) = Unit {0}
ReplyIsText Stay = Unit {0}
ReplyIsText (Position row column) = Unit {0}
ReplyIsText (Shown index faults) = FaultsAreText faults
ReplyIsText (Refused refusal) = RefusalIsText refusal

-- what such a reply prints is UTF-8
abbrev pub RepliesPrintText : Type 0
RepliesPrintText = (line : ℕ) (answer : Reply) → ReplyIsText answer → IsUtf8 (reply_text line answer)
