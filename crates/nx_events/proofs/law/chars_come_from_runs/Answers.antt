use Rattle.nx_events.proofs.TextRuns.{chars_come_from_runs}
use Rattle.nx_events.proofs.law.chars_come_from_runs.Goals as goal

pub returns : goal.returns
returns c = chars_come_from_runs
