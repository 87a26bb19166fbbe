use Rattle.nx_scan.proofs.Joined.{tokens-go_on}
use Rattle.nx_scan.proofs.border.tokens_go_on.Goals as goal

pub returns : goal.returns
returns c text at utf8 place within = tokens-go_on text at utf8 place within
