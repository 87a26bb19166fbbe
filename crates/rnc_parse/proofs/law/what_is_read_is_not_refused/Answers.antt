use Rattle.rnc_parse.proofs.WholeTexts.{read_not_refused}
use Rattle.rnc_parse.proofs.law.what_is_read_is_not_refused.Goals as goal

pub returns : goal.returns
returns c = read_not_refused
