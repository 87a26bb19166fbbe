-- Runs of scripts of which each turn asks for what holds: how they end.
use Rattle.std.specs.Prelude.{◌≡◌, ℕ, ◌⊎◌, List, [], ◌∷◌, Some}
use Rattle.nx_host.specs.Count.{Rose}
use Rattle.nx_host.specs.Files.{FileMap}
use Rattle.nx_script.specs.Grammar.{IsLine}
use Rattle.nx_script.specs.declared.command.Command.{Command}
use Rattle.nx_script.specs.declared.command.Command.TheVariants.{SchemaFile}
use Rattle.nx_script.specs.declared.reply.Reply.{Reply}
use Rattle.nx_session.specs.Done.{IsDone, NoneFails}
use Rattle.nx_session.specs.Editor.{World}
use Rattle.nx_session.specs.Premises.{Allows}
use Rattle.nx_session.specs.Step.{Step}
use Rattle.nx_words.specs.Words.{CommandLine, Asks}
use Rattle.nx_run.specs.declared.status.Status.{Status}
use Rattle.nx_run.specs.Codes.{code_of}
use Rattle.nx_run.specs.Output.{OutState}
use Rattle.nx_run.specs.Run.{IsRunOf}
use Rattle.nx_run.specs.Script.{IsScript}
use Rattle.nx_run.specs.Surroundings.{Surroundings, begun_in}
use Rattle.nx_run.specs.Turns.{Turn, hold, line, turns_of}

-- the turn is this command
abbrev pub IsTurnOf : Turn → Command → Type 0
IsTurnOf (hold uri) given = given ≡ SchemaFile uri
IsTurnOf (line text) given = IsLine text given

-- each turn is a command of which the premise holds, in each world to which those before it lead where they are done
abbrev pub AreAllowed : World → List Turn → Type 0
AreAllowed old [] = Unit {0}
AreAllowed old (turn ∷ turns) =
    (given : Command) × IsTurnOf turn given × Allows old given
    × ((reply : Reply) (new : World) → Step old given reply new → IsDone reply → AreAllowed new turns)

-- the words name a script that is text in the files, which tell what they hold, and each of its turns is allowed
pub record IsAllowedRun (words : List (List ℕ)) (old : Surroundings) : Type 0 where
  pub asked : CommandLine
  pub asks : Asks words asked
  pub files : FileMap
  pub tells : old.files.map ≡ Some files
  pub script : List ℕ
  pub is_script : IsScript asked.script old.files script
  pub allowed : AreAllowed (begun_in asked.rules old) (turns_of asked.schema script)

-- such a run, in which neither the files nor the output fail, ends with 0, or for want of memory with 5
abbrev pub AllowedRunsAreDone : Type 0
AllowedRunsAreDone = (words : List (List ℕ)) (old new : Surroundings) (before after : OutState) (status : Status) →
    IsAllowedRun words old → NoneFails old.files new.files → ¬ Rose before.faults after.faults →
    IsRunOf words old new before after status → (code_of status ≡ 0) ⊎ (code_of status ≡ 5)
