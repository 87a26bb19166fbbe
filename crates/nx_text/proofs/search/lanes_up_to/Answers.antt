use Rattle.nx_text.proofs.NextByte.{lanes_none, lanes_some}
use Rattle.nx_text.proofs.search.lanes_up_to.Goals as goal

pub returns-then-found-eq0 : goal.returns-then-found-eq0
returns-then-found-eq0 c = lanes_none c.args.byte c.args.bytes.now c.requires c.if-found-eq0.true

pub returns-else-found-eq0 : goal.returns-else-found-eq0
returns-else-found-eq0 c = lanes_some c.args.byte c.args.bytes.now c.requires c.if-found-eq0.false
