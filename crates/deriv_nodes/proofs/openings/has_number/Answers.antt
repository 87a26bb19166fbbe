use Rattle.std.proofs.Common.{◌∙◌}
use Rattle.deriv_nodes.proofs.Opening.{number_found}
use Rattle.deriv_nodes.proofs.openings.has_number.Goals as goal

pub returns : goal.returns
returns c = λ nodes. c.some_has.ensures ∙ number_found nodes c.args.number c.args.opened.now
