-- The faults of a document, as they are published: the protocol's `PublishDiagnosticsParams`.
use Rattle.std.specs.Prelude.{ℕ, ℤ, List, [], ◌∷◌, ◌++◌, length, map, nat_le, take, cond, codes}
use Rattle.std.specs.Fmt.{decimal}
use Rattle.std.specs.Str.Lossy.{utf8_lossy}
use Rattle.nx_base.specs.declared.fault.Fault.{Fault}
use Rattle.nx_position.specs.Positions.{position_of}
use Rattle.nx_position.specs.declared.change.Range.{Range}
use Rattle.nx_position.specs.declared.position.Encoding.{Encoding}
use Rattle.nx_report.specs.Sentences.{sentence}
use Rattle.nx_wire.specs.Diagnostics.{diagnostic_data, published_data}
use Rattle.nx_wire.specs.declared.diagnostic.Severity.TheVariants.{Error}
use Rattle.serde_json.specs.Data.{Data}
use Rattle.serde_json.specs.View.{items_of}

-- where a fault is, in a text
abbrev pub fault_range : Encoding → List ℕ → Fault → Range
fault_range encoding text fault =
    record { start = position_of encoding text fault.span.from; end = position_of encoding text fault.span.to }

-- what it says; of bytes that are no text U+FFFD
abbrev pub fault_words : Fault → List ℕ
fault_words fault = utf8_lossy (sentence fault [])

abbrev pub fault_data : Encoding → List ℕ → Fault → Data
fault_data encoding text fault = diagnostic_data (fault_range encoding text fault) Error (fault_words fault)

-- how many faults are published
abbrev pub most_published : ℕ
most_published = 1000

-- the start of a text
abbrev pub start_range : Range
start_range = record { start = record { line = 0; column = 0 }; end = record { line = 0; column = 0 } }

-- the one that says how many there are, where there are more
abbrev pub count_data : ℕ → Data
count_data count = diagnostic_data start_range Error (decimal count ++ codes " errors, of which the first 1000 are listed")

-- all faults, or the first of them and one more
abbrev pub published_list : Encoding → List ℕ → List Fault → List Data
published_list encoding text faults =
    cond (nat_le (length faults) most_published) (map (fault_data encoding text) faults)
    (map (fault_data encoding text) (take most_published faults) ++ count_data (length faults) ∷ [])

-- the notice that publishes the faults of a document of this URI, version and text
abbrev pub publication : Encoding → List ℕ → ℤ → List ℕ → List Fault → Data
publication encoding uri version text faults = published_data uri version (items_of (published_list encoding text faults))
