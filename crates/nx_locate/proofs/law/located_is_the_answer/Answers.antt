use Rattle.nx_locate.proofs.Unambiguous.{located_is_the_answer}
use Rattle.nx_locate.proofs.law.located_is_the_answer.Goals as goal

pub returns : goal.returns
returns c = located_is_the_answer c.joins_is_decided.ensures
