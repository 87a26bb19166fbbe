use Rattle.nx_document.proofs.LegalTags.{legal_tags}
use Rattle.nx_document.proofs.law.legal_tags_have_legal_values.Goals as goal

pub returns : goal.returns
returns c mark bytes tag utf8 = legal_tags mark bytes tag utf8
