-- What it says of a text that a played line `errors` has the reply `errors: 0`.
use Rattle.std.specs.Prelude.{◌≡◌, ◌⊎◌, ◌↔◌, ℕ, ◌+◌, List, ◌∷◌, ◌++◌, length, codes, Option, IsUtf8}
use Rattle.nx_host.specs.Out.{Appends}
use Rattle.nx_script.specs.Grammar.{IsLine}
use Rattle.nx_script.specs.Printing.{reply_text}
use Rattle.nx_script.specs.declared.command.Command.TheVariants.{Errors}
use Rattle.nx_script.specs.declared.reply.Reply.{Reply}
use Rattle.nx_script.specs.declared.reply.Reply.TheVariants.{Refused}
use Rattle.nx_script.specs.declared.reply.Refusal.TheVariants.{NoMemory}
use Rattle.nx_session.specs.Editor.{World, schema_of}
use Rattle.nx_session.specs.Validity.{IsDocumentFor}
use Rattle.nx_words.specs.Words.{CommandLine}
use Rattle.nx_run.specs.Play.{TurnStep, Plays, IsWhole, texts_from}
use Rattle.nx_run.specs.Surroundings.{Surroundings, begun_in}
use Rattle.nx_run.specs.Turns.{Turn, line, turns_of, first_number}
use Rattle.nx_run.specs.declared.status.Status.{Status}

-- a script that is text is played up to one of its lines, in this world, and the line is answered by this reply
pub record PlaysLine (asked : CommandLine) (script : List ℕ) (old : Surroundings) (text : List ℕ) (now : World) (answer : Reply) : Type 0 where
  pub is_text : IsUtf8 script
  pub front : List Turn
  pub behind : List Turn
  pub turns : turns_of asked.schema script ≡ front ++ line text ∷ behind
  pub answers : List Reply
  pub played : Plays (begun_in asked.rules old) front answers now
  pub next : World
  pub step : TurnStep now (line text) answer next

-- where that line is `errors`, the text of its reply is `errors: 0` exactly where the editor's text is a well-formed document, and
-- valid against the schema that is held then, if one is; unless there was no memory to read the line or to list the faults, and that
-- is the reply
abbrev pub PlayedNoErrorsIsValid : Type 0
PlayedNoErrorsIsValid = (asked : CommandLine) (script : List ℕ) (old : Surroundings) (text : List ℕ) (now : World) (answer : Reply) (number : ℕ) →
    PlaysLine asked script old text now answer → IsLine text Errors →
    ((reply_text number answer ≡ codes "errors: 0\n") ↔ IsDocumentFor (schema_of now.editor) now.editor.text) ⊎ (answer ≡ Refused NoMemory)

-- What was written in a run holds, behind the texts of the replies to these turns, the text of one more reply, and then whatever
-- followed. That text is `errors: 0` exactly where the text of the editor that the turns lead to is a well-formed document, and valid
-- against the schema that is held then, if one is; unless there was no memory to read the line or to list the faults, and that is the
-- reply.
pub record TellsValidity (asked : CommandLine) (old : Surroundings) (before after : Option (List ℕ)) (front : List Turn) : Type 0 where
  pub answers : List Reply
  pub now : World
  pub played : Plays (begun_in asked.rules old) front answers now
  pub answer : Reply
  pub behind : List ℕ
  pub written : Appends before
      ((texts_from (first_number asked.schema) answers ++ reply_text (first_number asked.schema + length front) answer) ++ behind) after
  pub tells : ((reply_text (first_number asked.schema + length front) answer ≡ codes "errors: 0\n") ↔ IsDocumentFor (schema_of now.editor) now.editor.text)
      ⊎ (answer ≡ Refused NoMemory)

-- so it is of each line `errors` in a script that is text and was played to its end
abbrev pub WrittenNoErrorsIsValid : Type 0
WrittenNoErrorsIsValid = (asked : CommandLine) (script : List ℕ) (old new : Surroundings) (before after : Option (List ℕ)) (status : Status) →
    IsWhole asked script old new before after status → IsUtf8 script → (front behind : List Turn) (text : List ℕ) →
    turns_of asked.schema script ≡ front ++ line text ∷ behind → IsLine text Errors → TellsValidity asked old before after front
