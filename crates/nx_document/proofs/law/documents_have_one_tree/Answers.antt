use Rattle.nx_document.proofs.OneTree.{one_tree}
use Rattle.nx_document.proofs.law.documents_have_one_tree.Goals as goal

pub returns : goal.returns
returns c all tree other one two = one_tree all tree other one two
