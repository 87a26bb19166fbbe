use Rattle.nx_tags.proofs.OneAnswer.{answers_are_one}
use Rattle.nx_tags.proofs.law.answers_are_one.Goals as goal

pub returns : goal.returns
returns c text command one other utf8 h k = answers_are_one text command one other utf8 h k
