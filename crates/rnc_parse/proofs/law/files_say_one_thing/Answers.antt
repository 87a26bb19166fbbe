use Rattle.rnc_parse.proofs.Unambiguous.{files_one_thing}
use Rattle.rnc_parse.proofs.law.files_say_one_thing.Goals as goal

pub returns : goal.returns
returns c = files_one_thing
