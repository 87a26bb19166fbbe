use Rattle.rnc_parse.proofs.PatternViews.{item_of-Include}
use Rattle.rnc_parse.proofs.pattern.include_of.Goals as goal

pub returns : goal.returns
returns c = item_of-Include c.args.file c.args.replacements
