use Rattle.nx_document.proofs.Proper.{proper_names}
use Rattle.nx_document.proofs.law.documents_have_proper_names.Goals as goal

pub returns : goal.returns
returns c text tree utf8 is = proper_names text tree utf8 is
