use Rattle.nx_script.proofs.Reader.{one_command}
use Rattle.nx_script.proofs.read.lines_are_one_command.Goals as goal

pub returns : goal.returns
returns c = one_command
