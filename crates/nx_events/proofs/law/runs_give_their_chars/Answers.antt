use Rattle.nx_events.proofs.TextRuns.{runs_give_their_chars}
use Rattle.nx_events.proofs.law.runs_give_their_chars.Goals as goal

pub returns : goal.returns
returns c = runs_give_their_chars
