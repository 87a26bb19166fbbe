use Rattle.nx_events.proofs.TextRuns.{end_tags_end_innermost_first}
use Rattle.nx_events.proofs.law.end_tags_end_innermost_first.Goals as goal

pub returns : goal.returns
returns c = end_tags_end_innermost_first
