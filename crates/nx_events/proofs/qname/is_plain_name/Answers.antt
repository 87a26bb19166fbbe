use Rattle.std.proofs.lemmas.Bool.{OnTrue_at}
use Rattle.nx_events.proofs.PlainGroups.{plain_name_from}
use Rattle.nx_events.proofs.qname.is_plain_name.Goals as goal

pub returns-then-name-gt57 : goal.returns-then-name-gt57
returns-then-name-gt57 c = λ is. plain_name_from c.args.name.now c.if-name-gt57.true (OnTrue_at is c.are_plain_further.ensures)
