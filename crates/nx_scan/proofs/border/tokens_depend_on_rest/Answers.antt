use Rattle.nx_scan.proofs.Joined.{depends-on_rest}
use Rattle.nx_scan.proofs.border.tokens_depend_on_rest.Goals as goal

pub returns : goal.returns
returns c text other at there same start = depends-on_rest text other at there same start
