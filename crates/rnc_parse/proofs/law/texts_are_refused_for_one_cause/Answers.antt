use Rattle.rnc_parse.proofs.WholeTexts.{refused_once}
use Rattle.rnc_parse.proofs.law.texts_are_refused_for_one_cause.Goals as goal

pub returns : goal.returns
returns c = refused_once
