use Rattle.std.proofs.Common.{sym, refl}
use Rattle.rngx_read.proofs.Scopes.{bound_in_none}
use Rattle.rngx_read.proofs.scope.Scope.+last_bound.Goals as goal

pub returns-in-None : goal.returns-in-None
returns-in-None t c = sym (bound_in_none c.args.self.now c.args.prefix.now (rw (sym c.self.view_is, c.in-None.is) refl))
