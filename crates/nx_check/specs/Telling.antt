-- How it is told that a document isn't checked.
use Rattle.std.specs.Prelude.{◌≡◌, ◌⊎◌, ℕ, nat_eq, List, [], ◌++◌, length, drop, codes, Option, Some, None, option_map, IsUtf8, if◌then◌else◌}
use Rattle.std.specs.List.{starts_with}
use Rattle.nx_base.specs.declared.cause.Cause.{Cause}
use Rattle.nx_base.specs.declared.locate_fault.LocateFault.{LocateFault}
use Rattle.nx_base.specs.declared.locate_fault.LocateFault.TheVariants as rules
use Rattle.nx_host.specs.Files.{Holds}
use Rattle.nx_host.specs.PathUri.{uri_of_path}
use Rattle.nx_lines.specs.Shown.{shown_position}
use Rattle.nx_position.specs.declared.position.Encoding.TheVariants.{Utf32}
use Rattle.nx_position.specs.declared.position.Position.{Position}
use Rattle.nx_report.specs.Lines.{trouble_line}
use Rattle.nx_report.specs.declared.trouble.Trouble.{Trouble}
use Rattle.nx_report.specs.declared.trouble.Trouble.TheVariants as trouble
use Rattle.nx_script.specs.declared.reply.Refusal.{Refusal}
use Rattle.nx_script.specs.declared.reply.Refusal.TheVariants as refused
use Rattle.nx_session.specs.Editor.{FilesState}
use Rattle.percent_encoding.specs.Percent.{percent_decode}
use Rattle.nx_check.specs.Stopping.{StopsReading}
use Rattle.nx_check.specs.declared.reason.Reason.{Reason}
use Rattle.nx_check.specs.declared.reason.Reason.TheVariants.{BadWord, Absent, NotUtf8, BadReference, Rules, Schema, Failed, NoMemory}
use Rattle.nx_check.specs.declared.stop.Stop.{Stop}

-- the front of the URIs of all that lies in a folder
abbrev pub folder_front : List ℕ → List ℕ
folder_front folder = uri_of_path folder [] ++ codes "/"

abbrev pub shown_behind : List ℕ → List ℕ → List ℕ
shown_behind front uri = if starts_with nat_eq uri front then percent_decode (drop (length front) uri) else uri

-- the name by which a URI is shown: the path of what lies in the folder, and else the URI
abbrev pub shown : List ℕ → List ℕ → List ℕ
shown folder uri = shown_behind (folder_front folder) uri

-- the URI of the file that a fault of rules is about, and else this name
abbrev pub rules_name : List ℕ → List ℕ → LocateFault → List ℕ
rules_name folder word (rules.RulesAbsent uri) = shown folder uri
rules_name folder word (rules.RulesNotUtf8 uri at) = shown folder uri
rules_name folder word (rules.BadRules uri) = shown folder uri
rules_name folder word (rules.RulesLoop uri) = shown folder uri
rules_name folder word other = word

abbrev pub rules_trouble : LocateFault → Trouble
rules_trouble (rules.RulesAbsent uri) = trouble.Absent
rules_trouble (rules.RulesNotUtf8 uri at) = trouble.NotUtf8 at
rules_trouble (rules.BadRules uri) = trouble.BadRules
rules_trouble (rules.RulesLoop uri) = trouble.RulesLoop
rules_trouble (rules.BadUri text) = trouble.BadUri
rules_trouble rules.Failed = trouble.Failed
rules_trouble rules.NoMemory = trouble.NoMemory

-- the file that a refusal of a schema is about: the one that it names, and else the schema's own
abbrev pub schema_name : List ℕ → List ℕ → Refusal → List ℕ
schema_name folder text (refused.Absent uri) = shown folder uri
schema_name folder text (refused.NotUtf8 uri at) = shown folder uri
schema_name folder text other = shown folder text

abbrev pub schema_trouble : Refusal → Trouble
schema_trouble (refused.Absent uri) = trouble.Absent
schema_trouble (refused.NotUtf8 uri at) = trouble.NotUtf8 at
schema_trouble refused.BadUri = trouble.BadUri
schema_trouble (refused.Unreadable cause) = trouble.Schema cause
schema_trouble refused.NoMemory = trouble.NoMemory
schema_trouble other = trouble.Failed

-- the file that a reason is about: that of the schema or of the rules, and else the document, by its word
abbrev pub reason_name : List ℕ → List ℕ → Reason → List ℕ
reason_name folder word (Rules fault) = rules_name folder word fault
reason_name folder word (Schema text cause) = schema_name folder text cause
reason_name folder word other = word

abbrev pub reason_trouble : Reason → Trouble
reason_trouble BadWord = trouble.BadUri
reason_trouble Absent = trouble.Absent
reason_trouble (NotUtf8 at) = trouble.NotUtf8 at
reason_trouble BadReference = trouble.BadUri
reason_trouble (Rules fault) = rules_trouble fault
reason_trouble (Schema text cause) = schema_trouble cause
reason_trouble Failed = trouble.Failed
reason_trouble NoMemory = trouble.NoMemory

-- the line that is written
abbrev pub reason_line : List ℕ → List ℕ → Reason → List ℕ
reason_line folder word reason = trouble_line (reason_name folder word reason) None (reason_trouble reason) []

-- ---- where reading a schema file stops

-- the position of a byte offset of a text, where there is one; columns count characters
abbrev pub place_in : List ℕ → Option ℕ → Option Position
place_in text at = option_map (shown_position Utf32 text) at

-- the line for a schema file under this URI, of this text, in which reading stops there
abbrev pub stop_line : List ℕ → List ℕ → List ℕ → Stop → List ℕ
stop_line folder uri text stop = trouble_line (shown folder uri) (place_in text stop.at) (trouble.Schema stop.cause) stop.about

-- the line tells where reading the text stops for this cause
pub record IsLineIn (folder : List ℕ) (why : Cause) (uri text line : List ℕ) : Type 0 where
  pub utf8 : IsUtf8 text
  pub stop : Stop
  pub stops : StopsReading text stop
  pub same_cause : stop.cause ≡ why
  pub told : line ≡ stop_line folder uri text stop

-- it does so of a file
pub record IsStopLine (folder : List ℕ) (why : Cause) (old : FilesState) (line : List ℕ) (new : FilesState) : Type 0 where
  pub uri : List ℕ
  pub text : List ℕ
  pub held : Holds old.map uri (Some text)
  pub line_in : IsLineIn folder why uri text line
  pub stays : new ≡ old

-- it does so where the files of a schema make no grammar for that cause
pub record IsPlaced (folder : List ℕ) (reason : Reason) (old : FilesState) (line : List ℕ) (new : FilesState) : Type 0 where
  pub text : List ℕ
  pub why : Cause
  pub reason_is : reason ≡ Schema text (refused.Unreadable why)
  pub placed : IsStopLine folder why old line new

-- the line that is written for a document that isn't checked: one that tells where reading a schema file stops, or else the reason's
abbrev pub Tells : List ℕ → List ℕ → Reason → FilesState → List ℕ → FilesState → Type 0
Tells folder word reason old line new =
    IsPlaced folder reason old line new ⊎ ((line ≡ reason_line folder word reason) × (new.map ≡ old.map))
