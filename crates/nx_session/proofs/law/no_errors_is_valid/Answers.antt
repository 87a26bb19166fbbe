use Rattle.nx_session.proofs.Validity.{no_errors_is_valid}
use Rattle.nx_session.proofs.law.no_errors_is_valid.Goals as goal

pub returns : goal.returns
returns c = no_errors_is_valid
