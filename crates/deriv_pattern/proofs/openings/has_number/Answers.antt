use Rattle.std.proofs.Common.{◌∙◌}
use Rattle.deriv_pattern.proofs.Opened.{number_found}
use Rattle.deriv_pattern.proofs.openings.has_number.Goals as goal

pub returns : goal.returns
returns c = c.some_has.ensures ∙ number_found c.args.number c.args.opened.now
