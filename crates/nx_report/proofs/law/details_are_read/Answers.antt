use Rattle.nx_report.proofs.Details.{details_are}
use Rattle.nx_report.proofs.law.details_are_read.Goals as goal

pub returns : goal.returns
returns c = details_are
