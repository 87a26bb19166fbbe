-- The lines that list faults.
use Rattle.std.specs.Prelude.{ℕ, List, [], ◌∷◌, ◌++◌, length, codes}
use Rattle.std.specs.Fmt.{decimal}
use Rattle.std.specs.List.{flat_map}
use Rattle.nx_base.specs.declared.fault.Fault.{Fault}
use Rattle.nx_base.specs.declared.fault.Span.{Span}
use Rattle.nx_script.specs.Escapes.{printed_text}
use Rattle.nx_script.specs.Kinds.{kind_name}

-- the ends of a span, and a space
abbrev pub place_text : Span → List ℕ
place_text span = decimal span.from ++ codes "-" ++ decimal span.to ++ codes " "

-- a detail that isn't empty, behind a space
abbrev pub detail_text : List ℕ → List ℕ
detail_text [] = []
detail_text (byte ∷ bytes) = codes " " ++ printed_text (byte ∷ bytes)

-- `FROM-TO KIND`, or `FROM-TO KIND DETAIL`
abbrev pub fault_line : Fault → List ℕ
fault_line fault = place_text fault.span ++ kind_name fault.kind ++ detail_text fault.detail ++ codes "\n"

-- a line for each fault
abbrev pub fault_lines : List Fault → List ℕ
fault_lines faults = flat_map fault_line faults

-- how many faults there are, and a line for each
abbrev pub errors_text : List Fault → List ℕ
errors_text faults = codes "errors: " ++ decimal (length faults) ++ codes "\n" ++ fault_lines faults

-- the same of the faults that the view of this number shows
abbrev pub view_text : ℕ → List Fault → List ℕ
view_text index faults = codes "view " ++ decimal index ++ codes ": " ++ decimal (length faults) ++ codes "\n" ++ fault_lines faults
