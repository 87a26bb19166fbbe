use Rattle.nx_fill.proofs.Finishing.{fillings_fill}
use Rattle.nx_fill.proofs.law.fillings_fill.Goals as goal

pub returns : goal.returns
returns c = fillings_fill
