use Rattle.nx_scan.proofs.Ends.{cut-at_ends}
use Rattle.nx_scan.proofs.border.tokens_at_ends.Goals as goal

pub returns : goal.returns
returns c text at utf8 place within = cut-at_ends text at utf8 place within
