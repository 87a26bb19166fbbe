use Rattle.nx_scan.proofs.Marks.{mark-last}
use Rattle.nx_scan.proofs.mark.find_past.Goals as goal

pub returns-clause-last : goal.returns-clause-last
returns-clause-last c = mark-last c.args.mark.now c.args.text.now c.in_ok-at.at c.in_ok-at.ensures.stands c.requires.some
