use Rattle.nx_numbering.proofs.Files.{files_define_one_language}
use Rattle.nx_numbering.proofs.law.files_define_one_language.Goals as goal

pub returns : goal.returns
returns c = files_define_one_language c.joins_is_decided.ensures
