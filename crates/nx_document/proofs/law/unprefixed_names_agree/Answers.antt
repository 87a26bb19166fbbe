use Rattle.nx_document.proofs.Names.{names_agree}
use Rattle.nx_document.proofs.law.unprefixed_names_agree.Goals as goal

pub returns : goal.returns
returns c name = names_agree name
