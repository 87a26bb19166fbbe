use Rattle.nx_report.proofs.Shown.{lines_are}
use Rattle.nx_report.proofs.law.lines_are_one_line.Goals as goal

pub returns : goal.returns
returns c = lines_are
