use Rattle.nx_scan.proofs.Endings.{no_space}
use Rattle.nx_scan.proofs.Marks.{no_byte}
use Rattle.nx_scan.proofs.scan.space_at.Goals as goal

pub returns-in-None-clause-space : goal.returns-in-None-clause-space
returns-in-None-clause-space c = no_space c.args.text.now c.args.at (no_byte c.args.text.now c.args.at c.in-None.ensures.byte)
