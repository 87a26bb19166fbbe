use Rattle.nx_scan.proofs.Every.{cut-is_token}
use Rattle.nx_scan.proofs.border.tokens_fit.Goals as goal

pub returns : goal.returns
returns c text at utf8 place within = cut-is_token text at utf8 place within
