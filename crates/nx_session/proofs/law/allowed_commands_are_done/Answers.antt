use Rattle.nx_session.proofs.Allowed.{commands_done}
use Rattle.nx_session.proofs.law.allowed_commands_are_done.Goals as goal

pub returns : goal.returns
returns c = commands_done c.composed_are_passed.ensures c.simplified_is_not_broken.ensures c.joins_is_decided.ensures
