-- Faults of a document, as they are sent: the protocol's `Diagnostic` and `PublishDiagnosticsParams`.
use Rattle.std.specs.Prelude.{ℕ, ℤ, List, codes}
use Rattle.serde_json.specs.Data.{Data, number, unsigned, string, array, object, member, no_members, Items}
use Rattle.serde_json.specs.Find.{of_integer}
use Rattle.nx_position.specs.declared.change.Range.{Range}
use Rattle.nx_position.specs.declared.position.Position.{Position}
use Rattle.nx_wire.specs.Answers.{notice_data}
use Rattle.nx_wire.specs.declared.diagnostic.Severity.{Severity}
use Rattle.nx_wire.specs.declared.diagnostic.Severity.TheVariants.{Error, Warning, Information}

abbrev pub number_data : ℕ → Data
number_data n = number (unsigned n)

-- `{"line": N, "character": N}`
abbrev pub position_data : Position → Data
position_data position =
    object (member (codes "character") (number_data position.column) (member (codes "line") (number_data position.line) no_members))

-- `{"start": POSITION, "end": POSITION}`
abbrev pub range_data : Range → Data
range_data range =
    object (member (codes "end") (position_data range.end) (member (codes "start") (position_data range.start) no_members))

-- the protocol's `DiagnosticSeverity`
abbrev pub severity_number : Severity → ℕ
severity_number Error = 1
severity_number Warning = 2
severity_number Information = 3

-- `{"range": RANGE, "severity": N, "source": "nxml", "message": WORDS}`
abbrev pub diagnostic_data : Range → Severity → List ℕ → Data
diagnostic_data range severity words =
    object (member (codes "message") (string words) (member (codes "range") (range_data range)
    (member (codes "severity") (number_data (severity_number severity)) (member (codes "source") (string (codes "nxml")) no_members))))

-- the notice of a document's diagnostics: `{"uri": URI, "version": N, "diagnostics": [DIAGNOSTIC, ..]}`
abbrev pub published_data : List ℕ → ℤ → Items → Data
published_data uri version diagnostics =
    notice_data (codes "textDocument/publishDiagnostics")
    (object (member (codes "diagnostics") (array diagnostics) (member (codes "uri") (string uri)
    (member (codes "version") (number (of_integer version)) no_members))))
