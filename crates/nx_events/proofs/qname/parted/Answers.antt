use Rattle.nx_events.proofs.PlainNames.{plain_parts}
use Rattle.nx_events.proofs.qname.parted.Goals as goal

pub returns-then-is_plain_name : goal.returns-then-is_plain_name
returns-then-is_plain_name c = plain_parts c.args.name.now (c.is_plain_name.ensures c.if-is_plain_name.true)
