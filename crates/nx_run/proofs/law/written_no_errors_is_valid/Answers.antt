use Rattle.nx_run.proofs.Validity.{written_no_errors_is_valid}
use Rattle.nx_run.proofs.law.written_no_errors_is_valid.Goals as goal

pub returns : goal.returns
returns c = written_no_errors_is_valid c.played_no_errors_is_valid.ensures
