use Rattle.nx_document.proofs.Proper.{writable}
use Rattle.nx_document.proofs.law.documents_are_writable.Goals as goal

pub returns : goal.returns
returns c text tree utf8 is = writable text tree utf8 is
