-- Characters that XML doesn't allow, `]]>` in character data, and references to nothing (XML 1.0, 2.2, 2.4 and 4.1).
use Rattle.std.specs.Prelude.{ℕ, ◌+◌, Bool, true, false, ◌&&◌, ◌||◌, ◌==◌, is_some, Option, Some, None, if◌then◌else◌, List, [], ◌∷◌}
use Rattle.std.specs.Prelude.{◌++◌, length, slice_index}
use Rattle.std.specs.List.{flat_map}
use Rattle.std.specs.Str.{byte}
use Rattle.nx_base.specs.declared.fault.Fault.{Fault}
use Rattle.nx_base.specs.declared.fault.Span.{Span}
use Rattle.nx_base.specs.declared.fault.Kind.{Kind}
use Rattle.nx_base.specs.declared.fault.Kind.TheVariants.{BadChar, BadReference, BadText}
use Rattle.nx_events.specs.declared.reading.Reading.{Reading}
use Rattle.nx_events.specs.declared.reading.Reading.TheVariants.{Plain, Text, Value}
use Rattle.nx_events.specs.declared.character_fault.Told.{Told}
use Rattle.nx_base.specs.Characters.{is_char}
use Rattle.nx_events.specs.Faults.{bare_fault, bare_faults}
use Rattle.nx_events.specs.Utf8.{front_char}
use Rattle.nx_events.specs.References.{referenced}
use Rattle.nx_events.specs.Strings.{Piece, pieces}

-- a character that isn't a Char
unfoldable pub character_flaw : List ℕ → Option Kind
character_flaw piece = if is_char (front_char piece) then None else Some BadChar

-- the same, or a reference that stands for nothing
unfoldable pub tag_flaw : List ℕ → Option Kind
tag_flaw piece =
    if slice_index piece 0 == byte "&" then (if is_some (referenced piece) then None else Some BadReference)
    else character_flaw piece

-- the same, or `]]>`
unfoldable pub text_flaw : List ℕ → Option Kind
text_flaw piece =
    if slice_index piece 0 == byte "]" && length piece == 3 then Some BadText else tag_flaw piece

-- what is wrong with a piece
abbrev pub piece_flaw : Reading → List ℕ → Option Kind
piece_flaw Plain = character_flaw
piece_flaw Text = text_flaw
piece_flaw Value = tag_flaw

abbrev pub piece_span : Piece → Span
piece_span piece = record { from = piece.at; to = piece.at + length piece.bytes }

abbrev pub piece_faults : Reading → Piece → List Fault
piece_faults reading piece = bare_faults (piece_flaw reading piece.bytes) (piece_span piece)

abbrev pub is_bad_char : Kind → Bool
is_bad_char BadChar = true
is_bad_char _ = false

abbrev pub is_bad_text : Kind → Bool
is_bad_text BadText = true
is_bad_text _ = false

-- of the faults of such a kind the first alone, and none where one was told before
unfoldable pub once : Bool → (Kind → Bool) → List Fault → List Fault
once told such [] = []
once told such (fault ∷ faults) =
    (if told && such fault.kind then [] else fault ∷ []) ++ once (told || such fault.kind) such faults

-- the faults of the characters and references in bytes that begin at the place `at`, by place; BadChar and BadText are told once
unfoldable pub character_faults : Reading → ℕ → List ℕ → List Fault
character_faults reading at bytes =
    once false is_bad_char (once false is_bad_text (flat_map (piece_faults reading) (pieces reading at bytes)))

-- which of the two kinds that are told once were told before
abbrev pub is_told : Told → Kind → Bool
is_told told kind = (told.bad_char && is_bad_char kind) || (told.bad_text && is_bad_text kind)

abbrev pub told_behind : Told → Option Kind → Told
told_behind told None = told
told_behind told (Some kind) = record { bad_char = told.bad_char || is_bad_char kind; bad_text = told.bad_text || is_bad_text kind }

-- the fault of one piece, unless it was told before
abbrev pub new_faults : Told → Option Kind → Span → List Fault
new_faults told None span = []
new_faults told (Some kind) span = if is_told told kind then [] else bare_fault kind span ∷ []

-- the faults of what follows
unfoldable pub faults_behind : Told → Reading → ℕ → List ℕ → List Fault
faults_behind told reading at bytes =
    once told.bad_char is_bad_char (once told.bad_text is_bad_text (flat_map (piece_faults reading) (pieces reading at bytes)))
