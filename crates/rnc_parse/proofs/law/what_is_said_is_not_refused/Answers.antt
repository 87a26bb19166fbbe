use Rattle.rnc_parse.proofs.Unambiguous.{says_no_refusal}
use Rattle.rnc_parse.proofs.law.what_is_said_is_not_refused.Goals as goal

pub returns : goal.returns
returns c = says_no_refusal
