use Rattle.std.proofs.Common.{sym, ◌∙◌}
use Rattle.std.proofs.lemmas.Slice.Eq.{bytes_eq-Decides}
use Rattle.nx_written.proofs.Prefixes.{xml_serves}
use Rattle.nx_written.proofs.prefix.prefix_of.Goals as goal

pub returns-then-eq : goal.returns-then-eq
returns-then-eq c = xml_serves c.args.scope.now c.args.uri.now ((bytes_eq-Decides c.args.uri.now _).0 (sym c.eq.ensures ∙ c.if-eq.true))
