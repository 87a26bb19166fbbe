use Rattle.std.proofs.Common.{sym, ◌∙◌}
use Rattle.rngx_read.proofs.Scopes.{bound_in_none}
use Rattle.rngx_read.proofs.declarations.last_in.Goals as goal

pub returns : goal.returns
returns c = sym (bound_in_none c.pairs.rest.now c.args.prefix.now c.in_default.ensures.cases) ∙ c.pairs.invariant
