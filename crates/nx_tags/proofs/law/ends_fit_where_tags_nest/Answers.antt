use Rattle.nx_tags.proofs.Fitting.{ends_fit_where_tags_nest}
use Rattle.nx_tags.proofs.law.ends_fit_where_tags_nest.Goals as goal

pub returns : goal.returns
returns c state start end inner kind = ends_fit_where_tags_nest state start end inner kind
