use Rattle.rnc_parse.proofs.PatternViews.{item_of-Div}
use Rattle.rnc_parse.proofs.pattern.div_of.Goals as goal

pub returns : goal.returns
returns c = item_of-Div c.args.items
