-- What a script plays, one turn behind another: the schema that the words name, if they name one, and then each line.
use Rattle.std.specs.Prelude.{◌≡◌, ℕ, ◌+◌, List, [], ◌∷◌, map, Option, Some, None, Result, Ok, Err}
use Rattle.nx_script.specs.Grammar.{ReadsLine}
use Rattle.nx_script.specs.Lines.{lines_of}
use Rattle.nx_script.specs.declared.command.Command.{Command}
use Rattle.nx_script.specs.declared.command.Command.TheVariants.{SchemaFile}
use Rattle.nx_script.specs.declared.read.ScriptFault.{ScriptFault}
use Rattle.nx_script.specs.declared.read.ScriptFault.TheVariants.{BadCommand, NoMemory}
use Rattle.nx_run.specs.declared.turns.Turn.{Turn as Given}
use Rattle.nx_run.specs.declared.turns.Turn.TheVariants as given

-- what is carried out in its turn: the document is held against the schema of this URI text, or a line of the script is
pub data Turn : Type 0 where
  hold : List ℕ → Turn
  line : List ℕ → Turn

-- the turns of a script before which the words name this schema, or none
abbrev pub turns_of : Option (List ℕ) → List ℕ → List Turn
turns_of None script = map (λ text. line text) (lines_of script)
turns_of (Some uri) script = hold uri ∷ map (λ text. line text) (lines_of script)

-- the number of the first turn: lines count from 1, and what is before them has the number 0
abbrev pub first_number : Option (List ℕ) → ℕ
first_number None = 1
first_number (Some uri) = 0

-- ---- as the code sees them

abbrev pub turn_of : Given → Turn
turn_of (given.Schema uri) = hold uri.now
turn_of (given.Line text) = line text.now

-- what reading a turn answers: its command, or that its line is none
abbrev pub ReadsTurn : Turn → Result Command ScriptFault → Type 0
ReadsTurn (hold uri) (Ok command) = command ≡ SchemaFile uri
ReadsTurn (hold uri) (Err BadCommand) = ⊥
ReadsTurn (hold uri) (Err NoMemory) = Unit {0}
ReadsTurn (line text) answer = ReadsLine text answer

-- the schema that is still to be held, the text of the lines that are left, and how many lines were taken
pub record TurnsLeft : Type 0 where
  pub schema : Option (List ℕ)
  pub rest : List ℕ
  pub lines : ℕ

abbrev pub turns_left : TurnsLeft → List Turn
turns_left left = turns_of left.schema left.rest

abbrev pub next_number : TurnsLeft → ℕ
next_number left = first_number left.schema + left.lines

-- the next turn is taken, with its number; none where none is left
abbrev pub TakesTurn : TurnsLeft → Option (ℕ × Given) → TurnsLeft → Type 0
TakesTurn old None new = turns_left old ≡ []
TakesTurn old (Some taken) new =
    (turns_left old ≡ turn_of taken.1 ∷ turns_left new) × (taken.0 ≡ next_number old) × (next_number new ≡ next_number old + 1)
