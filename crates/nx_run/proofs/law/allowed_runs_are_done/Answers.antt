use Rattle.nx_run.proofs.Allowing.{runs_done}
use Rattle.nx_run.proofs.law.allowed_runs_are_done.Goals as goal

pub returns : goal.returns
returns c =
    runs_done c.faults_are_counted.ensures c.allowed_commands_are_done.ensures c.allowed_lines_are_done.ensures c.joins_is_decided.ensures
