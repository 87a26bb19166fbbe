use Rattle.nx_events.proofs.PlainRuns.{plain_told}
use Rattle.nx_events.proofs.character_fault.push_character_faults.Goals as goal

pub returns-then-are_plain : goal.returns-then-are_plain
returns-then-are_plain c = plain_told c.args.reading c.args.at c.args.bytes.now c.args.items.now (c.are_plain.ensures c.if-are_plain.true)
