use Rattle.std.proofs.lemmas.Bool.{OnTrue_at}
use Rattle.nx_events.proofs.PlainGroups.{letters_go_on}
use Rattle.nx_events.proofs.qname.are_plain_further.Goals as goal

pub returns-then-are_letters : goal.returns-then-are_letters
returns-then-are_letters c = letters_go_on c.args.bytes.now (OnTrue_at c.if-are_letters.true c.are_letters.ensures)
