-- The grammar of a line of a script: which command a line is.
use Rattle.std.specs.Prelude.{◌≡◌, ◌≢◌, ℕ, ◌<◌, ◌≤◌, ◌⊎◌, List, [], ◌∷◌, ◌++◌, length, codes, encode_utf8, Result, Ok, Err}
use Rattle.std.specs.Char.{IsScalar}
use Rattle.std.specs.List.{AllByRecursion, flat_map}
use Rattle.std.specs.Str.Parse.{IsNumeral, digits_value}
use Rattle.nx_base.specs.declared.way.Way.{Way}
use Rattle.nx_base.specs.declared.way.Way.TheVariants as ways
use Rattle.nx_script.specs.declared.command.Command.{Command}
use Rattle.nx_script.specs.declared.command.Command.TheVariants.{Nothing, OpenFile, Save, Insert, Delete, Print, Errors, Slice, Stats}
use Rattle.nx_script.specs.declared.command.Command.TheVariants.{SchemaFile, SchemaNone, SchemaAuto, Complete, Goto, Move, Next, Previous}
use Rattle.nx_script.specs.declared.command.Command.TheVariants.{Position, View, Close, Make, Finish, Split, Pair, Rename}
use Rattle.nx_script.specs.QualifiedNames.{IsQName}
use Rattle.nx_script.specs.declared.read.ScriptFault.{ScriptFault}
use Rattle.nx_script.specs.declared.read.ScriptFault.TheVariants.{BadCommand, NoMemory}

-- a space or a tab
abbrev pub IsBlank : ℕ → Type 0
IsBlank byte = (byte ≡ 32) ⊎ (byte ≡ 9)

-- spaces and tabs alone, or nothing
abbrev pub IsBlanks : List ℕ → Type 0
IsBlanks blanks = AllByRecursion IsBlank blanks

-- one space or tab, or more
abbrev pub IsGap : List ℕ → Type 0
IsGap gap = (0 < length gap) × IsBlanks gap

-- the text is these words in order with a gap before each, and then blanks
abbrev pub IsTailOf : List (List ℕ) → List ℕ → Type 0
IsTailOf [] text = IsBlanks text
IsTailOf (word ∷ words) text = (gap rest : List ℕ) × (text ≡ gap ++ word ++ rest) × IsGap gap × IsTailOf words rest

-- the line is this word and these behind it, with a gap between two of them, and blanks at its ends
abbrev pub IsOfWords : List ℕ → List (List ℕ) → List ℕ → Type 0
IsOfWords word words line = (blanks rest : List ℕ) × (line ≡ blanks ++ word ++ rest) × IsBlanks blanks × IsTailOf words rest

-- 1 to 18 decimal digits spell the number
abbrev pub IsNumber : List ℕ → ℕ → Type 0
IsNumber word number = IsNumeral 10 word × (length word ≤ 18) × (number ≡ digits_value 10 word)

-- a piece of a text between quotes: a byte that stands for itself, or an escape; of a character's code these are the digits
pub data Piece : Type 0 where
  Itself : ℕ → Piece
  Newline : Piece
  Tab : Piece
  Return : Piece
  Backslash : Piece
  Quote : Piece
  Code : List ℕ → Piece

-- 1 to 6 hexadecimal digits, which spell the code of a character
abbrev pub IsCode : List ℕ → Type 0
IsCode digits = IsNumeral 16 digits × (length digits ≤ 6) × IsScalar (digits_value 16 digits)

-- neither a quote nor a backslash stands for itself
abbrev pub IsPiece : Piece → Type 0
IsPiece (Itself byte) = (byte ≢ 34) × (byte ≢ 92)
IsPiece Newline = Unit {0}
IsPiece Tab = Unit {0}
IsPiece Return = Unit {0}
IsPiece Backslash = Unit {0}
IsPiece Quote = Unit {0}
IsPiece (Code digits) = IsCode digits

-- how a piece is written
abbrev pub spelled : Piece → List ℕ
spelled (Itself byte) = byte ∷ []
spelled Newline = codes "\\n"
spelled Tab = codes "\\t"
spelled Return = codes "\\r"
spelled Backslash = codes "\\\\"
spelled Quote = codes "\\\""
spelled (Code digits) = codes "\\u{" ++ digits ++ codes "}"

-- what it means: itself, LF, tab, CR, a backslash, a quote, or the character of this code
abbrev pub meant : Piece → List ℕ
meant (Itself byte) = byte ∷ []
meant Newline = codes "\n"
meant Tab = codes "\t"
meant Return = codes "\r"
meant Backslash = codes "\\"
meant Quote = codes "\""
meant (Code digits) = encode_utf8 (digits_value 16 digits)

-- pieces between quotes spell the text
abbrev pub IsText : List ℕ → List ℕ → Type 0
IsText word text = (pieces : List Piece) × AllByRecursion IsPiece pieces
    × (word ≡ codes "\"" ++ flat_map spelled pieces ++ codes "\"") × (text ≡ flat_map meant pieces)

-- a line that is passed over: blanks alone, or blanks and then a `#` and anything
abbrev pub IsNothingLine : List ℕ → Type 0
IsNothingLine line = IsBlanks line ⊎ ((blanks rest : List ℕ) × (line ≡ blanks ++ codes "#" ++ rest) × IsBlanks blanks)

-- `open "URI"`
abbrev pub IsOpenLine : List ℕ → List ℕ → Type 0
IsOpenLine uri line = (text : List ℕ) × IsText text uri × IsOfWords (codes "open") (text ∷ []) line

-- `save "URI"`
abbrev pub IsSaveLine : List ℕ → List ℕ → Type 0
IsSaveLine uri line = (text : List ℕ) × IsText text uri × IsOfWords (codes "save") (text ∷ []) line

-- `insert N "TEXT"`
abbrev pub IsInsertLine : ℕ → List ℕ → List ℕ → Type 0
IsInsertLine at added line = (number text : List ℕ) × IsNumber number at × IsText text added
    × IsOfWords (codes "insert") (number ∷ text ∷ []) line

-- `delete N N`
abbrev pub IsDeleteLine : ℕ → ℕ → List ℕ → Type 0
IsDeleteLine from to line = (first second : List ℕ) × IsNumber first from × IsNumber second to
    × IsOfWords (codes "delete") (first ∷ second ∷ []) line

-- `print`
abbrev pub IsPrintLine : List ℕ → Type 0
IsPrintLine line = IsOfWords (codes "print") [] line

-- `errors`
abbrev pub IsErrorsLine : List ℕ → Type 0
IsErrorsLine line = IsOfWords (codes "errors") [] line

-- the line is this word and a number
abbrev pub IsOfNumber : List ℕ → ℕ → List ℕ → Type 0
IsOfNumber word value line = (number : List ℕ) × IsNumber number value × IsOfWords word (number ∷ []) line

-- `slice N`
abbrev pub IsSliceLine : ℕ → List ℕ → Type 0
IsSliceLine count line = IsOfNumber (codes "slice") count line

-- `stats`
abbrev pub IsStatsLine : List ℕ → Type 0
IsStatsLine line = IsOfWords (codes "stats") [] line

-- `schema "URI"`
abbrev pub IsSchemaFileLine : List ℕ → List ℕ → Type 0
IsSchemaFileLine uri line = (text : List ℕ) × IsText text uri × IsOfWords (codes "schema") (text ∷ []) line

-- `schema none`
abbrev pub IsSchemaNoneLine : List ℕ → Type 0
IsSchemaNoneLine line = IsOfWords (codes "schema") (codes "none" ∷ []) line

-- `schema auto`
abbrev pub IsSchemaAutoLine : List ℕ → Type 0
IsSchemaAutoLine line = IsOfWords (codes "schema") (codes "auto" ∷ []) line

-- `complete N`
abbrev pub IsCompleteLine : ℕ → List ℕ → Type 0
IsCompleteLine at line = IsOfNumber (codes "complete") at line

-- `goto N`
abbrev pub IsGotoLine : ℕ → List ℕ → Type 0
IsGotoLine at line = IsOfNumber (codes "goto") at line

-- the word of a way
abbrev pub way_word : Way → List ℕ
way_word ways.Forward = codes "forward"
way_word ways.Backward = codes "backward"
way_word ways.Up = codes "up"
way_word ways.BackUp = codes "back-up"
way_word ways.Down = codes "down"

-- `move W`
abbrev pub IsMoveLine : Way → List ℕ → Type 0
IsMoveLine way line = IsOfWords (codes "move") (way_word way ∷ []) line

-- `next`
abbrev pub IsNextLine : List ℕ → Type 0
IsNextLine line = IsOfWords (codes "next") [] line

-- `previous`
abbrev pub IsPreviousLine : List ℕ → Type 0
IsPreviousLine line = IsOfWords (codes "previous") [] line

-- `where`
abbrev pub IsPositionLine : List ℕ → Type 0
IsPositionLine line = IsOfWords (codes "where") [] line

-- `view N`
abbrev pub IsViewLine : ℕ → List ℕ → Type 0
IsViewLine index line = IsOfNumber (codes "view") index line

-- `close N`
abbrev pub IsCloseLine : ℕ → List ℕ → Type 0
IsCloseLine index line = IsOfNumber (codes "close") index line

-- `make N N`, where the first number is at most 2,147,483,647 and the second at most 200,000
abbrev pub IsMakeLine : ℕ → ℕ → List ℕ → Type 0
IsMakeLine seed pieces line = (first second : List ℕ) × IsNumber first seed × IsNumber second pieces
    × (seed ≤ 2147483647) × (pieces ≤ 200000) × IsOfWords (codes "make") (first ∷ second ∷ []) line

-- `finish N`
abbrev pub IsFinishLine : ℕ → List ℕ → Type 0
IsFinishLine at line = IsOfNumber (codes "finish") at line

-- `split N`
abbrev pub IsSplitLine : ℕ → List ℕ → Type 0
IsSplitLine at line = IsOfNumber (codes "split") at line

-- the line is this word, a number and a name between quotes
abbrev pub IsOfName : List ℕ → ℕ → List ℕ → List ℕ → Type 0
IsOfName word at name line = (number text : List ℕ) × IsNumber number at × IsText text name × IsQName name
    × IsOfWords word (number ∷ text ∷ []) line

-- `pair N "QNAME"`
abbrev pub IsPairLine : ℕ → List ℕ → List ℕ → Type 0
IsPairLine at name line = IsOfName (codes "pair") at name line

-- `rename N "QNAME"`
abbrev pub IsRenameLine : ℕ → List ℕ → List ℕ → Type 0
IsRenameLine at name line = IsOfName (codes "rename") at name line

-- the line is this command
abbrev pub IsLine : List ℕ → Command → Type 0
IsLine line Nothing = IsNothingLine line
IsLine line (OpenFile uri) = IsOpenLine uri line
IsLine line (Save uri) = IsSaveLine uri line
IsLine line (Insert at added) = IsInsertLine at added line
IsLine line (Delete from to) = IsDeleteLine from to line
IsLine line Print = IsPrintLine line
IsLine line Errors = IsErrorsLine line
IsLine line (Slice count) = IsSliceLine count line
IsLine line Stats = IsStatsLine line
IsLine line (SchemaFile uri) = IsSchemaFileLine uri line
IsLine line SchemaNone = IsSchemaNoneLine line
IsLine line SchemaAuto = IsSchemaAutoLine line
IsLine line (Complete at) = IsCompleteLine at line
IsLine line (Goto at) = IsGotoLine at line
IsLine line (Move way) = IsMoveLine way line
IsLine line Next = IsNextLine line
IsLine line Previous = IsPreviousLine line
IsLine line Position = IsPositionLine line
IsLine line (View index) = IsViewLine index line
IsLine line (Close index) = IsCloseLine index line
IsLine line (Make seed pieces) = IsMakeLine seed pieces line
IsLine line (Finish at) = IsFinishLine at line
IsLine line (Split at) = IsSplitLine at line
IsLine line (Pair at name) = IsPairLine at name line
IsLine line (Rename at name) = IsRenameLine at name line

-- no line is two commands
abbrev pub LinesAreOneCommand : Type 0
LinesAreOneCommand = (line : List ℕ) (first second : Command) → IsLine line first → IsLine line second → first ≡ second

-- what reading a line answers: its command, or that it is no command's line
abbrev pub ReadsLine : List ℕ → Result Command ScriptFault → Type 0
ReadsLine line (Ok command) = IsLine line command
ReadsLine line (Err BadCommand) = (command : Command) → IsLine line command → ⊥
ReadsLine line (Err NoMemory) = Unit {0}
