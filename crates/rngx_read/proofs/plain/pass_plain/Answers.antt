use Rattle.nx_events.specs.Items.{items_of_token}
use Rattle.rngx_read.specs.Walking.{walked_of}
use Rattle.rngx_read.proofs.PlainWalking.{none_given}
use Rattle.rngx_read.proofs.plain.pass_plain.Goals as goal

pub returns-in_ok-add_characters-in-Text-clause-walk : goal.returns-in_ok-add_characters-in-Text-clause-walk
returns-in_ok-add_characters-in-Text-clause-walk c t =
    none_given (items_of_token c.args.state.now c.args.token.now) (walked_of c.args.walk.now)
    (c.is_plain_text.ensures c.in-Text.is c.if-not-is_plain_text.false).items
