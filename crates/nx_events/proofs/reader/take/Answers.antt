use Rattle.std.proofs.Common.{◌++◌, ap, ◌∙◌}
use Rattle.nx_events.specs.Items.{items_of_token}
use Rattle.nx_events.proofs.TextItems.{given_text, next_text}
use Rattle.nx_events.proofs.reader.take.Goals as goal

pub returns-clause-text : goal.returns-clause-text
returns-clause-text c token state = given_text c.args.state.now c.args.token.now _ (c.in_ok-take_into.ensures.items ∙ ap (λ ys. ys ++ items_of_token c.args.state.now c.args.token.now) c.new-items.ensures) token state

pub returns-clause-state_text : goal.returns-clause-state_text
returns-clause-state_text c token state = next_text c.args.state.now _ c.args.token.now c.in_ok-take_into.ensures.state token state
