use Rattle.nx_run.proofs.Validity.{played_no_errors_is_valid}
use Rattle.nx_run.proofs.law.played_no_errors_is_valid.Goals as goal

pub returns : goal.returns
returns c = played_no_errors_is_valid c.edited_is_utf8.ensures c.raw_lines_are_the_lines.ensures c.lines_are_one_command.ensures
