use Rattle.nx_scan.proofs.OwnBytes.{cut-own}
use Rattle.nx_scan.proofs.border.tokens_are_of_kind.Goals as goal

pub returns : goal.returns
returns c text at utf8 place within = cut-own text at utf8 place within
