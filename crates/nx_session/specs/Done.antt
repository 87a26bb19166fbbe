-- Laws of what is done: a command, or a line, of which the premise holds is refused for want of memory alone.
use Rattle.std.specs.Prelude.{◌≡◌, ℕ, ◌≤◌, ◌⊎◌, List}
use Rattle.nx_host.specs.Count.{Rose}
use Rattle.nx_script.specs.Grammar.{IsLine}
use Rattle.nx_script.specs.declared.command.Command.{Command}
use Rattle.nx_script.specs.declared.reply.Reply.{Reply}
use Rattle.nx_script.specs.declared.reply.Reply.TheVariants.{Refused}
use Rattle.nx_script.specs.declared.reply.Refusal.TheVariants.{NoMemory}
use Rattle.nx_session.specs.Editor.{World, FilesState}
use Rattle.nx_session.specs.Premises.{Allows, TakesMemory}
use Rattle.nx_session.specs.Step.{Step, LineStep}

-- the reply doesn't refuse: it is what the command's definition says of one that is done
abbrev pub IsDone : Reply → Type 0
IsDone (Refused cause) = ⊥
IsDone reply = Unit {0}

-- no call on files failed: their count of faults didn't rise, and isn't at its last value, at which each call counts as one
abbrev pub NoneFails : FilesState → FilesState → Type 0
NoneFails before after = ¬ Rose before.faults after.faults

-- such a command is done, or it is one that takes memory, and there was none
abbrev pub AllowedCommandsAreDone : Type 0
AllowedCommandsAreDone = (old new : World) (given : Command) (reply : Reply) →
    Allows old given → NoneFails old.files new.files → Step old given reply new →
    IsDone reply ⊎ (TakesMemory given × (reply ≡ Refused NoMemory))

-- a line of such a command is a step of it that is done, or there was no memory
abbrev pub AllowedLinesAreDone : Type 0
AllowedLinesAreDone = (old new : World) (line : List ℕ) (given : Command) (reply : Reply) →
    IsLine line given → Allows old given → NoneFails old.files new.files → LineStep old line reply new →
    (Step old given reply new × IsDone reply) ⊎ (reply ≡ Refused NoMemory)

-- no command lowers the count of the files' faults
abbrev pub FaultsAreCounted : Type 0
FaultsAreCounted = (old new : World) (given : Command) (reply : Reply) → Step old given reply new → old.files.faults ≤ new.files.faults
