use Rattle.rnc_parse.proofs.Answered.{others_clash}
use Rattle.rnc_parse.proofs.read.behind_declarations.Goals as goal

pub returns : goal.returns
returns c = others_clash c.args.tokens.now c.args.end c.args.declarations c.as_slice.result.now c.args.cursor c.in-Err.clash c.clashed.result c.as_slice.ensures c.requires.shallow c.requires.declared c.in-Err.ensures c.clashed.ensures
