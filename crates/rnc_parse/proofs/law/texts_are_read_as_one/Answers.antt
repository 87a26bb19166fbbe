use Rattle.rnc_parse.proofs.WholeTexts.{read_as_one}
use Rattle.rnc_parse.proofs.law.texts_are_read_as_one.Goals as goal

pub returns : goal.returns
returns c = read_as_one
