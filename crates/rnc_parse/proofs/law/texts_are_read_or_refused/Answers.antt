use Rattle.rnc_parse.proofs.WholeTexts.{read_or_refused}
use Rattle.rnc_parse.proofs.law.texts_are_read_or_refused.Goals as goal

pub returns : goal.returns
returns c = read_or_refused
