use Rattle.nx_session.proofs.FilesGrammar.{valid_for_files}
use Rattle.nx_session.proofs.law.no_errors_is_valid_for_files.Goals as goal

pub returns : goal.returns
returns c = valid_for_files c.documents_are_writable.ensures c.no_errors_is_valid.ensures
