use Rattle.rnc_parse.proofs.Unambiguous.{says_one_thing}
use Rattle.rnc_parse.proofs.law.tokens_say_one_thing.Goals as goal

pub returns : goal.returns
returns c = says_one_thing
