use Rattle.nx_session.proofs.Allowed.{lines_done}
use Rattle.nx_session.proofs.law.allowed_lines_are_done.Goals as goal

pub returns : goal.returns
returns c = lines_done c.lines_are_one_command.ensures c.allowed_commands_are_done.ensures
