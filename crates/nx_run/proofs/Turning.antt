-- The command of a turn, carried out, is what the turn asks for.
use Rattle.std.proofs.Common.{◌≡◌, Result, Ok, subst, inl}
use Rattle.nx_script.specs.declared.command.Command.{Command}
use Rattle.nx_script.specs.declared.read.ScriptFault.{ScriptFault}
use Rattle.nx_script.specs.declared.reply.Reply.{Reply}
use Rattle.nx_session.specs.Editor.{World}
use Rattle.nx_session.specs.Step.{Step}
use Rattle.nx_run.specs.Play.{TurnStep}
use Rattle.nx_run.specs.Turns.{Turn, hold, line, ReadsTurn}

step_of_turn : (turn : Turn) (command : Command) (old new : World) (reply : Reply) → ReadsTurn turn (Ok command) → Step old command reply new
    → TurnStep old turn reply new
step_of_turn (hold uri) command old new reply is step = let P : Command → Type 0 = λ k. Step old k reply new in subst P is step
step_of_turn (line text) command old new reply reads step = inl (command, reads, step)

pub turn_done : (turn : Turn) (found : Result Command ScriptFault) (command : Command) (old new : World) (reply : Reply) → found ≡ Ok command
    → ReadsTurn turn found → Step old command reply new → TurnStep old turn reply new
turn_done turn found command old new reply is reads step =
    let P : Result Command ScriptFault → Type 0 = λ r. ReadsTurn turn r in
    step_of_turn turn command old new reply (subst P is reads) step
