use Rattle.nx_document.proofs.Nesting.{document_reads}
use Rattle.nx_document.proofs.law.documents_have_no_fault.Goals as goal

pub returns : goal.returns
returns c all tree len is = document_reads all tree len is
