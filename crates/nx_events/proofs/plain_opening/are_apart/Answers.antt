use Rattle.std.proofs.Common.{sym, ◌∙◌}
use Rattle.std.proofs.lemmas.Bool.{not-true}
use Rattle.nx_events.proofs.PlainAttributes.{apart_by_local}
use Rattle.nx_events.proofs.plain_opening.are_apart.Goals as goal

pub returns : goal.returns
returns c = λ is. apart_by_local c.args.a.now c.args.b.now (not-true _ (sym c.ne.ensures ∙ is))
