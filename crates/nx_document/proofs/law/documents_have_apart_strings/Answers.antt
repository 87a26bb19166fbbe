use Rattle.nx_document.proofs.ApartStrings.{documents_apart}
use Rattle.nx_document.proofs.law.documents_have_apart_strings.Goals as goal

pub returns : goal.returns
returns c all tree is = documents_apart all tree is
