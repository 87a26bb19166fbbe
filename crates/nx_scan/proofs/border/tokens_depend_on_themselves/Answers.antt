use Rattle.nx_scan.proofs.Themselves.{cut-same}
use Rattle.nx_scan.proofs.border.tokens_depend_on_themselves.Goals as goal

pub returns : goal.returns
returns c text other at known utf8 other_utf8 place within before border same =
    cut-same text other at known utf8 other_utf8 place within before border same
