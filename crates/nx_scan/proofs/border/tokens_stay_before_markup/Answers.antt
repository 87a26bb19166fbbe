use Rattle.nx_scan.proofs.Staying.{cut-stays}
use Rattle.nx_scan.proofs.border.tokens_stay_before_markup.Goals as goal

pub returns : goal.returns
returns c text other at utf8 other_utf8 place within ended same less =
    cut-stays text other at utf8 other_utf8 place within ended same less
