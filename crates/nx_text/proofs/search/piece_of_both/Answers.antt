use Rattle.std.proofs.Common.{rules}
use Rattle.nx_text.proofs.NextByte.{stands_in_front, stands_in_back}
use Rattle.nx_text.proofs.search.piece_of_both.Goals as goal

pub returns-then-from-gap-clause-piece : goal.returns-then-from-gap-clause-piece
returns-then-from-gap-clause-piece c = stands_in_back c.args.front.now c.args.back.now c.args.from (search rules)

pub returns-else-from-gap-clause-piece : goal.returns-else-from-gap-clause-piece
returns-else-from-gap-clause-piece c = stands_in_front c.args.front.now c.args.back.now c.args.from (search rules)
