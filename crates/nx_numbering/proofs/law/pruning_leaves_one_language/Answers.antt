use Rattle.nx_numbering.proofs.Pruning.{pruning_leaves_one_language}
use Rattle.nx_numbering.proofs.law.pruning_leaves_one_language.Goals as goal

pub returns : goal.returns
returns c = pruning_leaves_one_language
