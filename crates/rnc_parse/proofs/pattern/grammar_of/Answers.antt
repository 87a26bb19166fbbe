use Rattle.rnc_parse.proofs.PatternViews.{pattern_of-Grammar}
use Rattle.rnc_parse.proofs.pattern.grammar_of.Goals as goal

pub returns : goal.returns
returns c = pattern_of-Grammar c.args.items
