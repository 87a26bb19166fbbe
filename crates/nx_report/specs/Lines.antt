-- Lines about files: `FILE:LINE:COLUMN: error: SENTENCE [KIND]`, and others of that form.
use Rattle.std.specs.Prelude.{◌≡◌, ℕ, ◌+◌, ◌==◌, if◌then◌else◌, Bool, true, not, List, [], ◌++◌, Option, None, Some, codes}
use Rattle.std.specs.Fmt.{decimal}
use Rattle.std.specs.List.{list_all}
use Rattle.nx_base.specs.declared.fault.Fault.{Fault}
use Rattle.nx_base.specs.declared.offer.Offer.{Offer}
use Rattle.nx_position.specs.declared.position.Position.{Position}
use Rattle.nx_report.specs.declared.severity.Severity.{Severity}
use Rattle.nx_report.specs.declared.severity.Severity.TheVariants as severities
use Rattle.nx_report.specs.declared.trouble.Trouble.{Trouble}
use Rattle.nx_report.specs.Printed.{is_control, printed_text}
use Rattle.nx_report.specs.Kinds.{kind_name}
use Rattle.nx_report.specs.Sentences.{sentence}
use Rattle.nx_report.specs.Causes.{trouble_text, about_text}

abbrev pub severity_word : Severity → List ℕ
severity_word severities.Error = codes "error"
severity_word severities.Warning = codes "warning"
severity_word severities.Note = codes "note"

-- a line and a column, counted from 1, where they are known
abbrev pub place_text : Option Position → List ℕ
place_text None = []
place_text (Some place) = codes ":" ++ decimal (place.line + 1) ++ codes ":" ++ decimal (place.column + 1)

-- what a line begins with: the file as it was named, the place in it, and how grave it is
abbrev pub head : List ℕ → Option Position → Severity → List ℕ
head name place severity = printed_text name ++ place_text place ++ codes ": " ++ severity_word severity ++ codes ": "

-- a fault of a document, and what is expected in its place
abbrev pub fault_line : List ℕ → Position → Fault → List Offer → List ℕ
fault_line name place fault expected =
    head name (Some place) severities.Error ++ sentence fault expected ++ codes " [" ++ kind_name fault.kind ++ codes "]\n"

-- how many errors a file has
abbrev pub errors_word : ℕ → List ℕ
errors_word count = if count == 1 then codes " error" else codes " errors"

abbrev pub summary_line : List ℕ → ℕ → List ℕ
summary_line name count = printed_text name ++ codes ": " ++ decimal count ++ errors_word count ++ codes "\n"

-- why a file can't be used, and what that is about
abbrev pub trouble_line : List ℕ → Option Position → Trouble → List ℕ → List ℕ
trouble_line name place trouble about = head name place severities.Error ++ trouble_text trouble ++ about_text about ++ codes "\n"

-- words about a file
abbrev pub message_line : List ℕ → Option Position → Severity → List ℕ → List ℕ
message_line name place severity words = head name place severity ++ printed_text words ++ codes "\n"

abbrev pub is_shown : ℕ → Bool
is_shown byte = not (is_control byte)

-- a line, with its end and no other control character of ASCII
pub record IsOneLine (line : List ℕ) : Type 0 where
  pub front : List ℕ
  pub whole : line ≡ front ++ codes "\n"
  pub shown : list_all is_shown front ≡ true

-- whatever names and details hold, each is one line
pub record LinesAreOneLine : Type 0 where
  pub faults : (name : List ℕ) (place : Position) (fault : Fault) (expected : List Offer) → IsOneLine (fault_line name place fault expected)
  pub summaries : (name : List ℕ) (count : ℕ) → IsOneLine (summary_line name count)
  pub troubles : (name : List ℕ) (place : Option Position) (trouble : Trouble) (about : List ℕ) → IsOneLine (trouble_line name place trouble about)
  pub messages : (name : List ℕ) (place : Option Position) (severity : Severity) (told : List ℕ) → IsOneLine (message_line name place severity told)
