use Rattle.nx_scan.proofs.DoctypeEnds.{doctype-ends_exactly}
use Rattle.nx_scan.proofs.doctype_law.doctype_ends.Goals as goal

pub returns : goal.returns
returns c bs n = doctype-ends_exactly bs n
