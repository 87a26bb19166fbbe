use Rattle.rnc_parse.proofs.PatternViews.{replacement_of-Div}
use Rattle.rnc_parse.proofs.pattern.div_anew_of.Goals as goal

pub returns : goal.returns
returns c = replacement_of-Div c.args.replacements
