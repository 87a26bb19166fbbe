-- A script that is played from a new editor, turn by turn, and the texts of its replies.
use Rattle.std.specs.Prelude.{◌≡◌, ℕ, ◌+◌, ◌⊎◌, Bool, true, false, List, [], ◌∷◌, ◌++◌, length, Option, if◌then◌else◌}
use Rattle.std.specs.List.{AllByRecursion, list_any}
use Rattle.nx_host.specs.Count.{Rose}
use Rattle.nx_host.specs.Out.{Appends}
use Rattle.nx_script.specs.declared.command.Command.TheVariants.{SchemaFile}
use Rattle.nx_script.specs.Printing.{reply_text}
use Rattle.nx_script.specs.declared.reply.Reply.{Reply}
use Rattle.nx_script.specs.declared.reply.Reply.TheVariants as reply
use Rattle.nx_script.specs.declared.reply.Refusal.TheVariants as refusal
use Rattle.nx_run.specs.declared.status.Status.{Status}
use Rattle.nx_run.specs.declared.status.Status.TheVariants.{Done, Refused, Words, Script, Output, Memory}
use Rattle.nx_script.specs.Replies.{ReplyIsText}
use Rattle.nx_session.specs.Editor.{World}
use Rattle.nx_session.specs.Step.{Step, LineStep}
use Rattle.nx_session.specs.Viewing.{ViewsAreText}
use Rattle.nx_words.specs.Words.{CommandLine}
use Rattle.nx_run.specs.Output.{OutState}
use Rattle.nx_run.specs.Surroundings.{Surroundings, begun_in, around}
use Rattle.nx_run.specs.Turns.{Turn, hold, line, turns_of, first_number}

-- one turn of the editor
abbrev pub TurnStep : World → Turn → Reply → World → Type 0
TurnStep old (hold uri) reply new = Step old (SchemaFile uri) reply new
TurnStep old (line text) reply new = LineStep old text reply new

-- one turn after another gives these replies
abbrev pub Plays : World → List Turn → List Reply → World → Type 0
Plays old [] [] new = new ≡ old
Plays old (turn ∷ turns) (answer ∷ answers) new =
    (mid : World) × TurnStep old turn answer mid × Plays mid turns answers new
Plays old [] (answer ∷ answers) new = ⊥
Plays old (turn ∷ turns) [] new = ⊥

-- the texts of the replies, of which the first is for the turn of this number
abbrev pub texts_from : ℕ → List Reply → List ℕ
texts_from number [] = []
texts_from number (answer ∷ answers) = reply_text number answer ++ texts_from (number + 1) answers

-- the reply refuses for want of memory
abbrev pub wants_memory : Reply → Bool
wants_memory (reply.Refused refusal.NoMemory) = true
wants_memory answer = false

-- the reply refuses
abbrev pub is_refusal : Reply → Bool
is_refusal (reply.Refused cause) = true
is_refusal answer = false

-- the status of a script that was read to its end
abbrev pub status_of : List Reply → Status
status_of answers =
    if list_any wants_memory answers then Memory
    else (if list_any is_refusal answers then Refused else Done)

-- what was asked for: the script was played to its end, from a new editor, and the texts of all replies were written
pub record IsWhole (asked : CommandLine) (script : List ℕ)
    (old new : Surroundings) (before after : Option (List ℕ)) (status : Status) : Type 0 where
  pub answers : List Reply
  pub end_world : World
  pub played : Plays (begun_in asked.rules old) (turns_of asked.schema script) answers end_world
  pub left : new ≡ around end_world
  pub are_text : ViewsAreText old.views → AllByRecursion ReplyIsText answers
  pub written : Appends before (texts_from (first_number asked.schema) answers) after
  pub ended : status ≡ status_of answers

-- The script was played up to some turn. The texts of the replies before it were written, and a part of its own,
-- perhaps none or all of it.
pub record IsCutOff (asked : CommandLine) (script : List ℕ) (old new : Surroundings) (before after : Option (List ℕ)) : Type 0 where
  pub front : List Turn
  pub rest : List Turn
  pub answers : List Reply
  pub last : Reply
  pub end_world : World
  pub turns : turns_of asked.schema script ≡ front ++ rest
  pub played : Plays (begun_in asked.rules old) front (answers ++ last ∷ []) end_world
  pub left : new ≡ around end_world
  pub are_text : ViewsAreText old.views → AllByRecursion ReplyIsText (answers ++ last ∷ [])
  pub part : List ℕ
  pub missing : List ℕ
  pub parted : reply_text (first_number asked.schema + length answers) last ≡ part ++ missing
  pub written : Appends before (texts_from (first_number asked.schema) answers ++ part) after

-- there was no memory for an editor, and nothing was done
pub record IsUnbegun (old new : Surroundings) (before after : Option (List ℕ)) : Type 0 where
  pub all_stays : new ≡ old
  pub nothing_written : after ≡ before

-- by what the words asked for, the script was played to its end, or up to a turn whose text wasn't written
abbrev pub IsPlayOf : CommandLine → List ℕ → Surroundings → Surroundings → OutState → OutState → Status → Type 0
IsPlayOf asked script old new before after Done =
    IsWhole asked script old new before.bytes after.bytes Done × (after.faults ≡ before.faults)
IsPlayOf asked script old new before after Refused =
    IsWhole asked script old new before.bytes after.bytes Refused × (after.faults ≡ before.faults)
IsPlayOf asked script old new before after Memory =
    (IsWhole asked script old new before.bytes after.bytes Memory
    ⊎ IsCutOff asked script old new before.bytes after.bytes
    ⊎ IsUnbegun old new before.bytes after.bytes)
    × (after.faults ≡ before.faults)
IsPlayOf asked script old new before after Output =
    IsCutOff asked script old new before.bytes after.bytes × Rose before.faults after.faults
IsPlayOf asked script old new before after Words = ⊥
IsPlayOf asked script old new before after Script = ⊥
