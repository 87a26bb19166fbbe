use Rattle.nx_document.proofs.LegalReadings.{legal_is_read}
use Rattle.nx_document.proofs.law.legal_is_read_without_fault.Goals as goal

pub returns : goal.returns
returns c reading at bytes utf8 = legal_is_read reading at bytes utf8
