use Rattle.std.proofs.Common.{sym, ◌∙◌}
use Rattle.nx_events.proofs.Stacks.{innermost_is}
use Rattle.nx_events.proofs.nesting.around_innermost.Goals as goal

pub returns-clause-value : goal.returns-clause-value
returns-clause-value c = c.last_place.ensures.value ∙ sym (innermost_is c.args.name.now c.args.elements.now)
