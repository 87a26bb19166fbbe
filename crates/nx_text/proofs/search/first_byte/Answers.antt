use Rattle.nx_text.proofs.NextByte.{first_there, none_there}
use Rattle.nx_text.proofs.search.first_byte.Goals as goal

pub returns-then-before-bytes : goal.returns-then-before-bytes
returns-then-before-bytes c = first_there c.args.byte c.up_to_byte-before.result c.args.bytes.now c.up_to_byte-before.ensures.first c.if-before-bytes.true

pub returns-else-before-bytes : goal.returns-else-before-bytes
returns-else-before-bytes c = none_there c.args.byte c.up_to_byte-before.result c.args.bytes.now c.up_to_byte-before.ensures.first c.if-before-bytes.false
