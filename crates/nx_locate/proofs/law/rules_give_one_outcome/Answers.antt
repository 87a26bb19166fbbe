use Rattle.nx_locate.proofs.Unambiguous.{rules_give_one_outcome}
use Rattle.nx_locate.proofs.law.rules_give_one_outcome.Goals as goal

pub returns : goal.returns
returns c = rules_give_one_outcome c.joins_is_decided.ensures
